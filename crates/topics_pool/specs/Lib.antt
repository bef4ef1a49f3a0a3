pub mod Rows
pub mod Made
pub use Rattle.topic_universe.specs.Names
pub use Rattle.desk_model.specs.Pool
