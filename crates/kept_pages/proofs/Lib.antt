pub mod Objects
pub mod ReadPages
pub mod Visits
