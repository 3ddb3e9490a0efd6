pub mod BenchCabinet
pub mod BenchLine
pub mod BenchReading
