pub mod Bounds
pub mod OneEndKind
