mod Figures
mod Rows
pub mod Written
