-- What contracts of private functions and proofs name, and no contract of a public call.
pub mod KnownPseudoClasses
pub mod NextKinds
pub mod CombinatorViews
pub mod SelectorViews
pub mod SelectorDrafts
pub mod StretchFits
pub mod Stretches
pub mod PlacementSearch
pub mod RelatedMeanings
