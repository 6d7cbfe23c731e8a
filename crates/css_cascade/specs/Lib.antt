pub mod Layers
pub mod LayerViews
pub mod LayerNames
pub mod LayerNameViews
pub mod Cascade
pub mod WeightViews
pub mod Rollbacks
