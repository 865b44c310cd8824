pub mod Quantizer
pub mod ListLaw
pub mod Best
pub mod Wht
