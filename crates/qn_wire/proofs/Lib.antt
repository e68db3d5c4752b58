pub mod FieldsBack
mod Rows
pub mod Spelling
