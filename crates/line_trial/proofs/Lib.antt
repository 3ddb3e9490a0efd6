pub mod LastLeg
pub mod LineTried
pub mod NewPairs
pub mod TryingEnds
