pub mod Trials
pub mod Turning
