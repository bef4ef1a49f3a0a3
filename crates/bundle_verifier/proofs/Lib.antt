pub mod Matched
pub mod Zipped
pub mod Counted
pub mod Placed
pub mod Refused
pub mod SaidLines
pub mod OneAnswer
pub mod RoomParts
