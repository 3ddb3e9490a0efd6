pub mod FieldsRead
pub mod RefusalsShown
