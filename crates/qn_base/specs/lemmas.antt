-- Small lemmas of no subject of ours, each stated once, for the proofs of this crate and of those above.
pub mod Bools
pub mod Decimals
pub mod Elements
pub mod Lists
pub mod Masks
pub mod Numbers
pub mod Options
pub mod Ranges
pub mod Results
