pub mod Replies
pub mod State
pub mod Laws
