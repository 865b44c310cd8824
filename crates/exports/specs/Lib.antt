pub mod Told
pub mod Run
pub mod Report
pub mod Rows
pub mod Write
