pub mod Block
pub mod Feed
