pub mod Levels
pub mod Trails
