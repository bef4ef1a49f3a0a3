pub mod Hidden
pub mod More
