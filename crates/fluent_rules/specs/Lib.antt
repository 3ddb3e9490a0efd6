pub mod CellRules
pub mod CellsPart
pub mod Fluents
