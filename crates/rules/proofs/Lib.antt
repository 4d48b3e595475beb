pub mod Hits
pub mod Told
