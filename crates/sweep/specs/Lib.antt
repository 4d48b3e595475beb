pub mod Lapsing
