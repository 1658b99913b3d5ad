pub mod Map
pub mod Order
pub mod All
