pub mod Lookups
pub mod Ranges
