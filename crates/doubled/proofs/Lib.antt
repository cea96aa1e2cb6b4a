pub mod Computed
pub mod Levels
pub mod Questions
pub mod Sending
pub mod States
