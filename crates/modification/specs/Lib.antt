pub mod Entries
pub mod Assignments
