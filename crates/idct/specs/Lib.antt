pub mod Driver
pub mod Rows
pub mod Inner
