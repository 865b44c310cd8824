pub mod Bytes
pub mod Clip
pub mod Lent
pub mod Promises
pub mod Trips
pub mod Inner
