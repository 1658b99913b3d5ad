pub mod Fieldata
pub mod Records
pub mod Checksum
pub mod Block
pub mod HowChecksum
