pub mod CheckAnswers
pub mod ShortAnswers
pub mod inner
