pub mod EventLines
pub mod EventNames
pub mod EventTexts
pub mod EventWords
pub mod ValuesRead
pub mod WholeLines
