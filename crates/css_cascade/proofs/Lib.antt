pub mod CascadeLemmas
pub mod CascadeVectors
pub mod LayerLemmas
pub mod NameLemmas
pub mod PartLemmas
pub mod RollbackLemmas
pub mod WinnerLemmas
