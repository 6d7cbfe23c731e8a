pub mod Lists
pub mod StyleTexts
