pub mod Draws
pub mod Counts
