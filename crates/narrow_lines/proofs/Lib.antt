pub mod Tiles
pub mod Strips
mod Rounding
mod Orders
