pub mod Beside
pub mod Faster
pub mod Laws
pub mod Met
