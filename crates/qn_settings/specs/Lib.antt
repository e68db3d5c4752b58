pub mod Keys
pub mod Sections
pub mod Entries
pub mod Values
pub mod Nodes
pub mod TieOrder
pub mod Answer
pub mod Text
