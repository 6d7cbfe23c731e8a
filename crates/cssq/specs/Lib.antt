pub mod Command
pub mod Faults
pub mod Writing
pub mod SelectorRuns
pub mod SheetRuns
pub mod MatchRuns
pub mod Winners
pub mod StyleRuns
pub mod Showing
pub mod internal
-- What contracts of trees name, under the names of this crate.
pub use Rattle.cssq_tree.specs.TreeText
pub use Rattle.cssq_tree.specs.ParentsAndSiblings
pub use Rattle.cssq_tree.specs.PageNodes
pub use Rattle.cssq_tree.specs.ElementLaws
