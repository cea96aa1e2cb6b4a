pub mod Steps
pub mod Runs
pub mod Told
pub mod Law
pub mod Text
