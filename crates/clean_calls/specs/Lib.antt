pub mod Passed
pub mod CleanCalls
