mod Beyond
pub mod Alone
