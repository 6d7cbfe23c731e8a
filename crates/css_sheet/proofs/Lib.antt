pub mod NextParts
pub mod Sizes
pub mod GroupPieces
pub mod SheetSteps
pub mod NoneIsLost
pub mod PlaceLemmas
pub mod PartSteps
mod PartPieces
mod SheetRuleLemmas
mod OpenLemmas
mod ParentLemmas
mod LevelLemmas
mod PartNesting
mod ContentLemmas
mod PrintLemmas
mod SaidLemmas
mod GatherLemmas
pub mod WrittenItems
pub mod ImportLemmas
mod FrontLemmas
mod NamespaceLemmas
mod NestingVectors
