pub mod Turns
pub mod Fits
