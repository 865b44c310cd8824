pub mod Answers
pub mod Limits
pub mod Sizes
pub mod Bad
