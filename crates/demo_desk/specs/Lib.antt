pub mod Draws
pub mod Texts
pub mod Summary
pub mod Demo
