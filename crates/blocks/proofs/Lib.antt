pub mod Places
pub mod Lines
pub mod Live
pub mod Near
pub mod Blocks
pub mod Passes
pub mod Inverse
pub mod Turns
