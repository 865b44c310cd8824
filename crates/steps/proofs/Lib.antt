pub mod Bounds
pub mod Shapes
pub mod Places
