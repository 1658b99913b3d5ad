pub mod Answer
pub mod Outcome
pub mod Entry
pub mod Make
pub mod Release
pub mod Open
