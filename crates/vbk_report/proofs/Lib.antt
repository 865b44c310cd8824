pub mod Lists
pub mod Given
pub mod Runs
pub mod Unique
pub mod Same
pub mod History
pub mod Room
