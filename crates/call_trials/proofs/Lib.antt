pub mod OneRanked
