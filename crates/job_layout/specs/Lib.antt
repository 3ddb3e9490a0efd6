pub mod FileRefusals
pub mod JobTables
pub mod Layout
pub mod OneEndKind
pub mod inner
