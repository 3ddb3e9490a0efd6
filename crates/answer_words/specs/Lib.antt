pub mod AnswerWords
pub mod Fields
