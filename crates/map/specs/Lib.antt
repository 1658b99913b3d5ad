pub mod Map
pub mod HowOrder
