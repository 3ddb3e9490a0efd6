pub mod EntryLaws
pub mod GroupEnds
pub mod LineLoops
pub mod ListLaws
