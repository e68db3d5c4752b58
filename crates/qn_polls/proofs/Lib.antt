pub mod FieldsBack
pub mod Spelling
pub mod Places
pub mod Remembering
