pub mod Answering
pub mod Columns
pub mod Counting
pub mod Examples
pub mod Members
pub mod PairsOfBytes
pub mod Products
pub mod Scan
