pub mod Chains
pub mod Steps
pub mod Counting
pub mod Placing
pub mod HashLemmas
pub mod Charging
pub mod IndexLemmas
