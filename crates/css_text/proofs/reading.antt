-- What readers consume of a text, where they end, how often they are called, and what each owes.
pub mod EachLemmas
pub mod TakesLemmas
pub mod EndsLemmas
pub mod WellLemmas
pub mod GotLemmas
pub mod LengthLemmas
