pub mod Answering
pub mod Branches
pub mod Following
pub mod SameAnswers
pub mod Serving
