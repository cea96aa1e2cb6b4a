pub mod Faults
pub mod Unique
