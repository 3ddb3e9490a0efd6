pub mod LineLaws
pub mod Unrefused
