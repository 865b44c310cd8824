pub mod Cosine
pub mod Reversal
pub mod Rotations
pub mod Growth
pub mod Out
