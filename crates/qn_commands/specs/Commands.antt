-- The record of each command: all that it promises.
pub mod Count
pub mod Create
pub mod Dump
pub mod List
pub mod Message
pub mod Migrate
