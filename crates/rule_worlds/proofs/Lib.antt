pub mod NewNumber
pub mod NewValues
pub mod WorldDigits
