pub mod Handle
pub mod Kept
pub mod SheetCalls
pub mod Sheets
