mod FoundLemmas
mod TruthLemmas
mod KeptLemmas
mod AddedLemmas
mod KeyedLemmas
mod WordLemmas
mod DistinctLemmas
mod FileLemmas
mod SieveLemmas
mod MatchLemmas
mod TestLemmas
pub mod WalkLemmas
mod OpenLemmas
