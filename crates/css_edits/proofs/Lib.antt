pub mod Items
pub mod Cuts
