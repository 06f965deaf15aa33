pub mod Scanned
pub mod Skipped
