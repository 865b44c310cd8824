pub mod Scan
pub mod Work
pub mod Small
pub mod Answers
mod Told
mod Flat
mod Front
