pub mod Text
pub mod Replies
pub mod Puts
