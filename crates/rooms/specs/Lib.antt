pub mod Rooms
pub mod HowTally
