pub mod WalkAnswers
pub mod inner
