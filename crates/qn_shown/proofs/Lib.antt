mod LineWords
mod Times
mod ValuesBack
mod Members
mod ReadBack
mod ListsRead
mod Tellings
