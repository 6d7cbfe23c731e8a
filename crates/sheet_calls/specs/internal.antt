-- Definitions that no public contract names.
pub mod Shown
