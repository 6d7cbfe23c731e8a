pub mod Values
pub mod Attributes
pub mod Changing
pub mod Placing
pub mod Splicing
pub mod Shapes
pub mod Editing
