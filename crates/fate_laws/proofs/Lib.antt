pub mod Fates
pub mod RunFates
pub mod Series
pub mod StepFates
