pub mod Sections
pub mod Groups
pub mod Start
pub mod Pieces
