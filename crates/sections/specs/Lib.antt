pub mod Waits
pub mod Heads
pub mod Program
pub mod HowTurns
