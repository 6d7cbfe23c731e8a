pub mod internal
pub mod Entries
pub mod Changes
pub mod Splicing
pub mod Editing
