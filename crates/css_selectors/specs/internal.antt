-- Definitions that no public contract names.
pub mod Occurrences
pub mod PlainParts
pub mod WordStarts
