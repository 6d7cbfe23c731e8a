pub mod Handle
pub mod Kept
pub mod Lists
pub mod Objects
pub mod Visits
