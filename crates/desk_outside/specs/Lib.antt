pub mod Outside
pub mod State
pub mod InMemory
pub mod Calls
pub mod Seen
pub mod Inputs
