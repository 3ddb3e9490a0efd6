pub mod Answering
pub mod CheckRefusals
