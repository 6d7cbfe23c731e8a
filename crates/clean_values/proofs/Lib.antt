pub mod LimitLemmas
pub mod ValueLemmas
