pub mod Indicator
pub mod HowCursor
