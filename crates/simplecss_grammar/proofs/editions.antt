-- Texts that both editions read alike.
pub mod SheetEditions
