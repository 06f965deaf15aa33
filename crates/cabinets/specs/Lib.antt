pub mod Makes
pub mod Groups
pub mod Cabinets
pub mod Promises
pub mod New
