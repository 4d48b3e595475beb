pub mod Steps
pub mod Ended
pub mod Due
pub mod Lapsing
pub mod Whole
