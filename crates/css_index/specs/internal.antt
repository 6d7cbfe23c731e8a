-- What contracts of private functions and proofs name, and no contract of a public call.
pub mod Added
pub mod Filed
pub mod Sieves
pub mod Candidates
pub mod Walking
