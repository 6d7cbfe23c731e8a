pub mod Words
pub mod Labels
pub mod Finding
pub mod Views
pub mod Prescan
pub mod Declaration
pub mod Page
