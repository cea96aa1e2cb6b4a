pub mod Filters
pub mod Sanity
