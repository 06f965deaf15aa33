pub mod Meanings
pub mod Nexts
pub mod Runs
pub mod Makes
