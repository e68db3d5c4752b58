pub mod Hmac
pub mod Opening
pub mod Receiving
pub mod Seals
pub mod Windows
