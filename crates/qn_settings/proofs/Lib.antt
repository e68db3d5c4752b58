pub mod EntryLemmas
pub mod FirstLemmas
pub mod NodeLemmas
pub mod ValueLemmas
pub mod TieLemmas
pub mod Validity
pub mod Answering
