pub mod Points
pub mod Serving
