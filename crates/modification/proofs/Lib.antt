pub mod Spots
pub mod Channels
