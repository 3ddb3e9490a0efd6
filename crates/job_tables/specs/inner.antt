pub mod Entries
pub mod Opened
