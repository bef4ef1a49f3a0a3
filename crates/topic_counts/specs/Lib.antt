pub mod Ends
pub mod Numbers
pub mod Places
pub mod Own
pub mod Pairs
pub mod Seen
