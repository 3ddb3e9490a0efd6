pub mod RulesRead
