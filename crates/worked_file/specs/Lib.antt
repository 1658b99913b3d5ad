pub mod Blocks
pub mod Book
pub mod Image
pub mod Lives
pub mod Refused
pub mod Split
pub mod Worked
