pub mod Doubling
pub mod Extension
pub mod Literals
pub mod Tables
