pub mod Laws
pub mod Wiped
pub mod Held
pub mod Waiting
pub mod Blocked
pub mod Fed
