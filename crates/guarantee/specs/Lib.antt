pub mod CabinetPromises
pub mod CheckPromises
pub mod ReplayPromises
pub mod RunPromises
pub mod ShortCheckPromises
