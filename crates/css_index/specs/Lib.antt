pub mod Reported
pub mod KeyNumbers
pub mod Found
pub mod Walks
pub mod Tested
pub mod internal
