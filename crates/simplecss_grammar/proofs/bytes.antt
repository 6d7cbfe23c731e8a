-- Bytes, characters, names, strings and blanks, for the code that reads them.
pub mod PositionSums
pub mod BlankLaws
pub mod TrimLemmas
