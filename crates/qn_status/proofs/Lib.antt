mod Lines
mod Objects
mod PlainBytes
mod Ranks
