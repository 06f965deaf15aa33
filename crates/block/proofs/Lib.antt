pub mod Bytes
pub mod Lowest
pub mod Messages
pub mod FromFn
pub mod Blocks
pub mod Trips
pub mod Validity
pub mod Tail
