-- The order of rules.
pub mod OrderLemmas
