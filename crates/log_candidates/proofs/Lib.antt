pub mod Holding
pub mod NextWorlds
pub mod WorldSets
