pub mod LineRefusals
