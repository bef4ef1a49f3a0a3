pub mod Bundles
pub mod Drafts
pub mod Lengths
pub mod Marked
