pub mod OneClass
pub mod Notes
pub mod Above
pub mod Table
pub mod History
pub mod Good
