-- Worked texts, computed with the definitions. Nothing cites them.
pub mod OnLiterals
pub mod ReadingVectors
pub mod TokenVectors
pub mod SelectorVectors
pub mod DeclarationVectors
pub mod StatementVectors
pub mod SheetVectors
pub mod RelationVectors
pub mod CuttingVectors
pub mod EditionVectors
pub mod HyphenVectors
pub mod PrintingVectors
pub mod SkippedVectors
pub mod SkippedLawVectors
pub mod NothingLostVectors
