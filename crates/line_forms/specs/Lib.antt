pub mod Form
pub mod Rows
pub mod OrLine
pub mod Places
pub mod Faults
pub mod Reading
