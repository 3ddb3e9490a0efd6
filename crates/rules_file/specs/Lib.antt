pub mod RulesFile
pub mod RulesRefusal
pub mod inner
