pub mod Following
pub mod Logs
