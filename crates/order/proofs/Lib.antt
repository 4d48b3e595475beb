pub mod Numbers
pub mod Standing
pub mod Once
