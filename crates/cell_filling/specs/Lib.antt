pub mod FillAnswers
pub mod RulesInJobs
