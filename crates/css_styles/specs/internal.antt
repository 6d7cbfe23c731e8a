-- What contracts of private functions and proofs name, and no contract of a public call.
pub mod Stepping
pub mod Numbered
pub mod Floors
pub mod Remembered
