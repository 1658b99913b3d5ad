pub mod Opens
pub mod Worked
pub mod Refused
pub mod Split
pub mod Book
