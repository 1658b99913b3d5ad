pub mod Bits
pub mod Examples
pub mod Places
pub mod Numbers
pub mod Reading
pub mod Turns
