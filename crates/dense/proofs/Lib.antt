pub mod Lines
pub mod Stacks
pub mod Steps
