pub mod Least
pub mod Numbers
pub mod Laws
pub mod RankCases
pub mod Rooms
pub mod Crossed
pub mod Pairs
pub mod Uses
