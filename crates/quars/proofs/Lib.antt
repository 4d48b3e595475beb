pub mod Holding
pub mod Tried
