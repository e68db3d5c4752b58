-- Small lemmas of lines of schedules, each stated once, for the proofs of this crate and of those above.
pub mod Words
