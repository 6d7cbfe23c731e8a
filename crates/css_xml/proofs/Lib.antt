pub mod DecodingLemmas
pub mod Tagged
