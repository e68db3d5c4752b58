pub mod NodeStates
pub mod PlainTexts
pub mod StateData
pub mod StatusJson
pub mod StatusText
