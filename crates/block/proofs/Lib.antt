pub mod Checksum
pub mod Quarters
pub mod OnePass
pub mod Records
