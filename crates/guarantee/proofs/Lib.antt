pub mod CabinetServed
pub mod CheckDecides
pub mod CheckMeans
pub mod ReplayDecides
pub mod RunsAfterCheck
pub mod RunsDecide
pub mod ShortCheckDecides
