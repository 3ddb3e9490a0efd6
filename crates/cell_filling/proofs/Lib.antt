pub mod FillTests
pub mod JobsByRules
pub mod WholePart
