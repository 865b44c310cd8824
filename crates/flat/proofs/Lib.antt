mod Three
pub mod Table
pub mod Exchange
pub mod Straight
pub mod Arrays
