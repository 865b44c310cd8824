pub mod Place
pub mod Plane
pub mod Inner
