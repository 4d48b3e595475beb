pub mod Risks
pub mod Tests
