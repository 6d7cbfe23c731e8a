mod GatherLemmas
mod OrderLemmas
mod CriterionLemmas
mod LawLemmas
