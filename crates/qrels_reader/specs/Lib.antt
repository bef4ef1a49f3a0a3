pub mod Rows
pub mod Grouped
pub mod Reader
pub mod Fed
