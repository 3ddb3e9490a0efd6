pub mod Execution
pub mod Plan
