pub mod CellWrites
pub mod Columns
pub mod RuleApplied
pub mod RulesApplied
