pub mod AttributeLemmas
pub mod NumberLemmas
pub mod ConditionViews
mod SearchLemmas
mod AmpersandLemmas
pub mod TextLemmas
pub mod ItemLemmas
pub mod KeptLemmas
pub mod GapLemmas
pub mod round_trip
mod KnownLemmas
pub mod NestLemmas
pub mod DefaultLemmas
pub mod NestingLemmas
mod Vectors
mod NestedVectors
mod CutLemmas
mod OwnLemmas
