pub mod ActionLaws
pub mod WalkLoop
pub mod WalkRefusals
