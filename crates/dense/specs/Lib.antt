pub mod Entries
pub mod Levels
pub mod State
pub mod Sanity
