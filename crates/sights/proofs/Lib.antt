pub mod Sights
pub mod Known
