pub mod BlankMemory
pub mod Entries
pub mod LinkLaws
pub mod Places
pub mod Tally
pub mod WalkTurns
pub mod WriteTurns
