-- Definitions that no public contract names.
pub mod Held
pub mod Contents
