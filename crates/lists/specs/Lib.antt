pub mod HowKept
pub mod HowChain
pub mod Obey
pub mod HowKeep
pub mod Load
pub mod HowTaking
