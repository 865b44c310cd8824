pub mod Numbers
pub mod Absolute
pub mod Passed
