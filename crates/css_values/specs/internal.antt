pub mod Readings
pub mod Paths
pub mod Joined
