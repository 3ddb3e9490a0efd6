pub mod Fates
pub mod Search
