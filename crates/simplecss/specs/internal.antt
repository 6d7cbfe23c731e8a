-- What contracts of private functions and proofs name, and no contract of a public call.
pub mod Chains
pub mod LastByKey
pub mod RuleOrders
pub mod SharedBlocks
pub mod TextIndices
pub mod LastByBucket
pub mod NeededKeys
pub mod OnlyKeys
pub mod Kept
pub mod Recents
pub mod HeadViews
