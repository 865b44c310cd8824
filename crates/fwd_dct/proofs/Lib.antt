pub mod Sums
pub mod Lines
pub mod Passes
pub mod Answers
pub mod Flat
