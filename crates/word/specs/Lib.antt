pub mod Word
pub mod Sorts
pub mod Fault
pub mod Lists
pub mod Runs
pub mod Limits
