pub mod Token
pub mod Places
pub mod Choice
