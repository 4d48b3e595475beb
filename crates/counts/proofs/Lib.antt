pub mod Reading
pub mod Decimal
pub mod Writing
pub mod Laws
