pub mod Rows
pub mod Run
pub mod Reader
pub mod Fed
