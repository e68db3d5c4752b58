pub mod Addresses
pub mod Fields
pub mod OneMeaning
pub mod Placing
