pub mod Clients
pub mod Etcd
pub mod Exchanges
pub mod Feeds
pub mod Halts
pub mod Orders
pub mod WatchdogTimes
pub mod Writes
