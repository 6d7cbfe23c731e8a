pub mod Rows
pub mod TreeNodes
pub mod Messages
pub mod Ways
