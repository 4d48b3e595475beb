pub mod Layout
pub mod WellFormed
pub mod Fields
pub mod Holds
pub mod Search
