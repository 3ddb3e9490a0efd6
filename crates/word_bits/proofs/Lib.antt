pub mod BitScan
pub mod LowestBit
pub mod WordBits
