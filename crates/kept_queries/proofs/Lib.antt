pub mod Objects
pub mod Visits
