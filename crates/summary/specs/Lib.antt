pub mod Summary
pub mod Replace
