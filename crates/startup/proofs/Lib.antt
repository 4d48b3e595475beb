pub mod Fresh
pub mod Started
pub mod Sound
