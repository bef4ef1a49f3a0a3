pub mod Leasts
pub mod Ends
pub mod Pairing
pub mod CrossedPlaces
pub mod Using
