pub mod Decimal
pub mod Writing
pub mod Size
mod Worked
