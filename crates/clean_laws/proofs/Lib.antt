pub mod WithinLemmas
pub mod RuleLemmas
