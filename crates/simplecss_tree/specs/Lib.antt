pub mod TreeNodes
pub mod Walks
