-- Definitions that no public contract names.
pub mod Attributes
