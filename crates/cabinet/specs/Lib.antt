pub mod Calls
pub mod CabinetAnswers
pub mod ReadsPlan
