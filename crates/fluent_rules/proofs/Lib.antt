pub mod Blocks
pub mod Examples
pub mod NewWorlds
pub mod WorldNumbers
