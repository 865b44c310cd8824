pub mod Parts
pub mod Within
pub mod Tests
pub mod Round
pub mod Lists
pub mod Steps
pub mod Inner
