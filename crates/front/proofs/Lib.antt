pub mod Blocks
pub mod Carried
pub mod Faults
