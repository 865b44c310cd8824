pub mod Classes
pub mod Report
pub mod History
pub mod Inner
