pub mod Handle
pub mod Kept
pub mod Objects
pub mod PageCalls
pub mod Pages
pub mod ReadPages
pub mod Sources
pub mod Visits
