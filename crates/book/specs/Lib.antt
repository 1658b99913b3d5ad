pub mod Book
pub mod Tags
pub mod Assign
pub mod Allows
pub mod HowKept
pub mod Promises
