pub mod PlainWords
mod ValueSteps
mod ValuesBack
