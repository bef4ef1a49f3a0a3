pub mod Proposal
pub mod Laws
pub mod Total
pub mod Best
pub mod Kept
pub mod Moved
pub mod Marked
pub mod Shown
