pub mod Digits
pub mod Places
pub mod Parts
pub mod Rows
pub mod Bit
pub mod Replace
pub mod ByRows
