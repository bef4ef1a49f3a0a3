pub mod Cut
pub mod Table
pub mod Finds
pub mod Blocks
