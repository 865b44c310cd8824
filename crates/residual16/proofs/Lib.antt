pub mod Numbers
pub mod Sums
pub mod Tiles
pub mod Coefs
pub mod Block
pub mod Rounding
