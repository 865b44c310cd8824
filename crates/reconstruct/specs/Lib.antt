pub mod Reconstruct
pub mod Inner
