pub mod Step
pub mod Step2
pub mod Inner
