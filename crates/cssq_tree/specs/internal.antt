-- What contracts of private functions and proofs name, and no contract of a public call.
pub mod EntryLines
pub mod Spans
pub mod LastIndices
pub mod Siblings
pub mod Marks
