pub mod Chains
pub mod Tiers
pub mod Rows
pub mod Order
pub mod Tables
pub mod Holding
