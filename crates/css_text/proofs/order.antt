-- The order of rules.
pub mod ListFacts
pub mod RankLemmas
