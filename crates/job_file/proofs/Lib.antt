pub mod NoneApplies
pub mod Opening
pub mod ReadingLaws
pub mod WellFormed
