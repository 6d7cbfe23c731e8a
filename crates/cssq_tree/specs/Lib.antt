pub mod TreeText
pub mod ParentsAndSiblings
pub mod PageNodes
pub mod ElementLaws
pub mod internal
