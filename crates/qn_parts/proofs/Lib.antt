pub mod Answering
pub mod ValueSteps
