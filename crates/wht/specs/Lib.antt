pub mod Wht
