pub mod Bytes
pub mod Header
pub mod Records
pub mod Inner
