pub mod Executions
pub mod Pigeonhole
