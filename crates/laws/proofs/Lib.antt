pub mod Lossless
pub mod Nothing
pub mod Conforming
pub mod Padding
pub mod Before
