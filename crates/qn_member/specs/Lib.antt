pub mod Announcing
pub mod Following
pub mod Maker
pub mod MakerCalls
pub mod Naming
pub mod NamingCalls
pub mod NamingViews
pub mod Settling
