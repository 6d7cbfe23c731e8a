pub mod Contenders
pub mod NumberedRules
pub mod Winners
pub mod Properties
pub mod StyleViews
pub mod internal
