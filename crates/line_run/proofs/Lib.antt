pub mod RunLoop
pub mod RunRefusals
