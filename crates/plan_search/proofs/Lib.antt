pub mod SearchLoops
pub mod Sweeps
