pub mod Wht
pub mod Ranges
mod Machine
