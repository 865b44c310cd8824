pub mod Numbers
pub mod Records
pub mod Tokens
pub mod Runs
pub mod Printing
pub mod Touched
