pub mod Positions
pub mod Slots
pub mod ByName
pub mod Finding
pub mod Entering
pub mod Cutting
pub mod Blocks
