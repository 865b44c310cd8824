pub mod Sixteen
pub mod Residual
pub mod Table
