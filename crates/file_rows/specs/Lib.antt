pub mod Reading
pub mod Rows
pub mod Grouped
pub mod Names
pub mod Pieces
