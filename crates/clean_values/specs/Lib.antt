pub mod Values
pub mod Checks
pub mod Limits
pub mod Selectors
pub mod Urls
pub mod Plain
pub mod Views
