pub mod CountsProduct
pub mod PairTests
pub mod RuleBytes
pub mod RulesTested
