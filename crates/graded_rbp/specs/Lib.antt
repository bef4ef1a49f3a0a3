pub mod Grades
pub mod Score
pub mod Levels
pub mod Numbers
pub mod Orders
pub mod Kept
pub mod Example
