pub mod Prints
pub mod Library
pub mod Steps
pub mod Stretches
pub mod Whole
pub mod OneAnswer
