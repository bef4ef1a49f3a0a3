pub mod Places
pub mod Chains
pub mod Progress
pub mod Right
pub mod Forgetting
