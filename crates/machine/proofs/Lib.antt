pub mod Listed
pub mod Running
pub mod Alikes
