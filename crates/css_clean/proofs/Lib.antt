pub mod CleanLemmas
pub mod FollowingLemmas
pub mod SelectorLemmas
pub mod SheetLemmas
pub mod KeptLemmas
