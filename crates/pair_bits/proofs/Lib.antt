pub mod SetBits
pub mod Sums
pub mod WordSums
