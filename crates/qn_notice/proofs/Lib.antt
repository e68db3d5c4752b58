pub mod Growing
pub mod Leading
pub mod Words
