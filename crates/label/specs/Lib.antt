pub mod Name
pub mod HowSpelling
pub mod Tables
pub mod HowTables
pub mod Label
