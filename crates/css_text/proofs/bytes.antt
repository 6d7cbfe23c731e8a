-- Bytes, characters, names, strings and blanks, for the code that reads them.
pub mod GapLemmas
pub mod ScanLemmas
pub mod PositionLemmas
pub mod ByteLemmas
pub mod CutLemmas
pub mod NameLemmas
pub mod GapSteps
pub mod ByteTable
pub mod StringLemmas
pub mod RunLemmas
pub mod Utf8Lemmas
