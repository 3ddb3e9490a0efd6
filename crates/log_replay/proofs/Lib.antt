pub mod FollowEntry
pub mod LogEntries
pub mod ReplayLoop
pub mod ReplayRefusals
