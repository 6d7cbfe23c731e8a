pub mod Objects
pub mod Values
