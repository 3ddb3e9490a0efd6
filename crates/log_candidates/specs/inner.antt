pub mod WorldSets
