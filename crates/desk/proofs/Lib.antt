pub mod Tested
pub mod Facts
pub mod Replaced
pub mod Looked
