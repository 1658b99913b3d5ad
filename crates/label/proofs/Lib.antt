pub mod Fronts
pub mod Spelt
pub mod Tables
pub mod TableTurns
pub mod InOrder
pub mod Carried
pub mod Faults
