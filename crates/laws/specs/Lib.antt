pub mod Lossless
pub mod Conforming
pub mod Padding
