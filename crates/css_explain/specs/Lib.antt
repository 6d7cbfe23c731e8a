pub mod Explanations
pub mod ExplainViews
pub mod internal
