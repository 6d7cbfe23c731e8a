pub mod Trees
pub mod Placements
pub mod Bounds
pub mod ListTrees
pub mod Hashes
pub mod Charges
pub mod internal
