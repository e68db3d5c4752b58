pub mod NestingLemmas
pub mod LineFaults
pub mod ConfLaws
pub mod Reading
