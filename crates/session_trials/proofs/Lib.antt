pub mod OneDocument
