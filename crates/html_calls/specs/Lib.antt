pub mod Pages
pub mod Encodings
