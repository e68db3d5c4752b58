pub mod Line
pub mod Nesting
pub mod Conf
