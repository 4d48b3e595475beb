pub mod Searches
pub mod Expired
pub mod Lefts
pub mod Rooms
pub mod Leases
