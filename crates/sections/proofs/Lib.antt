pub mod Ranges
pub mod Leads
pub mod Turns
pub mod Blocks
pub mod Tables
