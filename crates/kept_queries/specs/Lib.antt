pub mod Handle
pub mod Kept
pub mod Objects
pub mod Queries
pub mod QueryCalls
pub mod ReadQueries
pub mod Sources
pub mod Visits
