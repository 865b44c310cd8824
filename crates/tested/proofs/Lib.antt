mod Answers
mod Lists
mod Entries
mod Going
mod Four
mod Done
pub mod Angles
