pub mod Order
pub mod Entry
pub mod Names
pub mod Sorted
pub mod Universe
pub mod Start
