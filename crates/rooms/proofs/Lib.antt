pub mod Count
pub mod Rooms
pub mod Pass
pub mod Counted
pub mod Held
