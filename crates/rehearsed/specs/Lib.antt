pub mod TwoValues
pub mod Column
pub mod Text
pub mod Example
pub mod Witness
