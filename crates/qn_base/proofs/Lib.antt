pub mod Digits
pub mod MaskBits
pub mod MemberVotes
mod PlanRows
