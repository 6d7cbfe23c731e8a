-- What contracts of private functions and proofs name, and no contract of a public call.
pub mod OpenViews
pub mod GatherViews
pub mod PartViews
pub mod FoundViews
pub mod FrontViews
pub mod WordViews
