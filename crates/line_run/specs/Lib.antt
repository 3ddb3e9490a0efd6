pub mod RunAnswers
