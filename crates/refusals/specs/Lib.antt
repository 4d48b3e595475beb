pub mod Left
pub mod Met
