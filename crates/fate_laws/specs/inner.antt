pub mod Fates
pub mod Series
