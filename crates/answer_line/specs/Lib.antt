pub mod AnswerLine
pub mod inner
