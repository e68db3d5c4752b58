-- The record of each command that plays a schedule, and of the words: all that it promises.
pub mod Help
pub mod Replay
pub mod Replay3
pub mod ReplayArbiter
pub mod Soak
pub mod Status
pub mod Usage
