pub mod Rules
pub mod Says
pub mod Tests
