pub mod LeastCase
pub mod Laws
pub mod Led
