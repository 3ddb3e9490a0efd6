pub mod PrintedRight
pub mod Writing
