pub mod Joins
pub mod Same
pub mod Orderly
pub mod Retold
pub mod Tellings
pub mod Laws
