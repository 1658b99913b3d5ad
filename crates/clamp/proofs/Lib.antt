pub mod Returned
pub mod Resealed
pub mod Assigned
