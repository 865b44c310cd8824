pub mod Replay
pub mod Filled
pub mod Promises
pub mod Inner
