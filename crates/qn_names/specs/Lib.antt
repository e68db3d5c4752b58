pub mod AnswerTexts
pub mod CauseNumbers
pub mod MemberWords
pub mod PhaseNames
pub mod WhyTexts
