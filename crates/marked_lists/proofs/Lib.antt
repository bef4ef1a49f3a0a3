pub mod Hiding
pub mod InStep
