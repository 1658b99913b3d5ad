pub mod OldRule
pub mod Reseal
pub mod Promises
