mod Around
mod Binds
mod ClockSpelling
mod ClocksListed
pub mod EventSpelling
mod Joining
mod LastDigits
mod LineWords
mod Listed
mod MemberSpelling
mod PartsLemmas
mod Places
pub mod RankSpelling
mod TimingSpelling
