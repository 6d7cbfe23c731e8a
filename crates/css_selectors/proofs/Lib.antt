mod WordStartLemmas
pub mod PartLemmas
mod SpacedLemmas
mod BoundLemmas
pub mod PlacementListLemmas
pub mod KeyLemmas
pub mod AncestorKeyLemmas
pub mod AfterKeyLemmas
pub mod OccurrenceLemmas
mod ListLaws
mod NestedCosts
mod NestedReads
pub mod NestingLaws
pub mod AlikeSelectors
pub mod PlainLemmas
mod NumberingLemmas
mod NumberingLaws
