pub mod Chains
pub mod Grades
pub mod Progress
pub mod Right
