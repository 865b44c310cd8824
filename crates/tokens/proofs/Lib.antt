pub mod Sizes
mod Bound
pub mod Above
