pub mod Group
pub mod Places
pub mod HowGroup
pub mod HowHalves
pub mod HowWords
pub mod HowLoop
pub mod HowFaults
