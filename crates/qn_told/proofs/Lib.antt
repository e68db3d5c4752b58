mod LooksOn
pub mod MemberLists
