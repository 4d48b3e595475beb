pub mod Making
pub mod Working
pub mod Tried
