pub mod PageCalls
pub mod ListFacts
