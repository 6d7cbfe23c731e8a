pub mod FaultLemmas
pub mod ValueLemmas
pub mod DeclarationLists
pub mod BlockLemmas
mod OpenValueLemmas
