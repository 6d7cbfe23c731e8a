pub mod Chosen
pub mod EncodingVectors
pub mod Marked
pub mod Named
pub mod Takes
