pub mod Elsewhere
pub mod Marks
pub mod Following
pub mod Tables
pub mod Weighing
pub mod Judgements
pub mod Unique
pub mod Answering
