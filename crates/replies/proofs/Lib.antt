pub mod Names
pub mod Lines
pub mod Laws
