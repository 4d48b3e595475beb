pub mod Laws
pub mod Cut
