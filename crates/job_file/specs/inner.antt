pub mod ReaderSteps
