pub mod Nodes
pub mod Page
pub mod Sheets
