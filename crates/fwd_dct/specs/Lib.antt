pub mod Sum
pub mod Forward
pub mod Inner
