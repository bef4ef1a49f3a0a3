pub mod Takes
pub mod Parser
pub mod Given
pub mod Parts
pub mod Laws
