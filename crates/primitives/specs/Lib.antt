pub mod Cosine
pub mod Brev
pub mod Rotations
pub mod Inner
