pub mod Agreement
pub mod Splitting
pub mod Listed
pub mod Wide
