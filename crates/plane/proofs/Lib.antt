pub mod Row
pub mod Block
pub mod Count
