pub mod Above
pub mod Contradiction
pub mod Sent
pub mod Sides
