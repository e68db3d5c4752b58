pub mod Calls
pub mod Companies
pub mod Differs
pub mod Follows
pub mod Heard
pub mod Kept
pub mod Lasting
pub mod Leaders
pub mod NamedViews
pub mod Owning
pub mod Ranks
mod Rows
pub mod Settles
pub mod Silent
