pub mod Room
pub mod Starts
