pub mod Quorums
pub mod Ballots
pub mod Answers
pub mod Entries
pub mod Owners
pub mod Reports
pub mod Takeovers
