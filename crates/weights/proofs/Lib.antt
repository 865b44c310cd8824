pub mod Sums
mod Forms
mod Beside
mod Steps
mod Steps2
mod Four
pub mod Passes
pub mod Blocks
