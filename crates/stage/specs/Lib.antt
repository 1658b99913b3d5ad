pub mod Stage
pub mod Ranges
pub mod Record
pub mod Step
