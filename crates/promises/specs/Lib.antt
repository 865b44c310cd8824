pub mod Exactly
pub mod Conditions
pub mod When
pub mod Numbers
pub mod Played
