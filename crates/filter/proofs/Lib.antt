pub mod Rows
pub mod Stacks
pub mod States
