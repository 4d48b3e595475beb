pub mod Found
pub mod Staged
pub mod Tried
