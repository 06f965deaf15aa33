pub mod Quorums
pub mod Lists
pub mod Ballots
pub mod Compatibility
pub mod Logs
pub mod Walks
pub mod Histories
