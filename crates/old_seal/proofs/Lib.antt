pub mod OldRule
pub mod Promises
