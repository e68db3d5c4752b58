pub mod ByRank
pub mod Majority
mod MembersLeft
pub mod Release
pub mod Resets
mod SectorRows
mod TieRows
pub mod VoteLists
mod WorldRows
pub mod WorkedCounts
