-- Small lemmas of the definitions here, each stated once, for the proofs of this crate and of those above.
pub mod ChosenRanks
pub mod Entries
pub mod Failures
pub mod Ids
pub mod LeastRanks
pub mod Lines
pub mod Logs
pub mod Moments
pub mod Operations
pub mod Phases
pub mod Rules
pub mod TwoNodes
pub mod VoteLists
pub mod WorldSteps
