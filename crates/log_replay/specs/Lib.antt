pub mod Logs
pub mod ReplayAnswers
pub mod inner
