pub mod Entries
pub mod Graph
pub mod Lists
