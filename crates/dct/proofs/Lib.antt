pub mod Dct
pub mod Ranges
