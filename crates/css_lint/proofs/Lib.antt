pub mod LateLemmas
pub mod KeyLemmas
pub mod PlacedLemmas
