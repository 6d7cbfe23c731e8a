pub mod Linting
pub mod Taken
