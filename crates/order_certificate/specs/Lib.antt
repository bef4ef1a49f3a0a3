pub mod Certificate
pub mod Places
pub mod Reading
pub mod Claim
pub mod Evidence
pub mod PlaceLines
pub mod Lengths
