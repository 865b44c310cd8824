pub mod Quantize
pub mod ForwardWht
pub mod Best
