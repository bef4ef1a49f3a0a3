pub mod Applied
pub mod Claims
