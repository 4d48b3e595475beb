pub mod Steps
pub mod Passes
pub mod Ended
pub mod Numbers
pub mod Whole
