pub mod Packed
pub mod Outcome
pub mod Entry
pub mod Freed
pub mod Made
pub mod Grant
pub mod Opened
