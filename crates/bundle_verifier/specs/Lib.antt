pub mod Refusal
pub mod Verified
pub mod Lines
pub mod Says
pub mod Sizes
pub mod Either
pub mod Rows
pub mod Room
