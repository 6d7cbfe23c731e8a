pub mod Characters
pub mod Doctypes
pub mod Tokens
pub mod References
pub mod Tags
pub mod Documents
