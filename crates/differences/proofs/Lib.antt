pub mod Existence
pub mod Lines
pub mod Sides
pub mod Sums
pub mod Tables
