pub mod Input
pub mod Buffers
