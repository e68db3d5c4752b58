pub mod Fence
