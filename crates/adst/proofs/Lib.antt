pub mod Adst
pub mod Ranges
mod Angles
mod Four
mod Lift
