pub mod Hand
pub mod Blocks
