pub mod Label
pub mod Entries
pub mod HowEntries
pub mod Termination
