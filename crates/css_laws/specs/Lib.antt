pub mod Conditions
pub mod Converted
pub mod Devices
pub mod Headline
pub mod OneTree
pub mod Pages
pub mod Queries
