pub mod Rows
pub mod Refusal
pub mod Verified
pub mod Checks
pub mod CompletionEnds
