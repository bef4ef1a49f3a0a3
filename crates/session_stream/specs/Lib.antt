pub mod Hearing
pub mod Text
pub mod Held
pub mod NoMore
