pub mod Adst
pub mod Inner
