-- The record of each command: all that it promises.
pub mod Audit
pub mod Node
pub mod NodeLogged
