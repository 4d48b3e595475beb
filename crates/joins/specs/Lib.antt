pub mod Bits
pub mod Joins
