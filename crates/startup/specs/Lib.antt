pub mod Start
pub mod Statements
