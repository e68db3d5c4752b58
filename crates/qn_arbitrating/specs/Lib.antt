pub mod Arbitrating
