pub mod BenchJobs
pub mod BenchPromises
