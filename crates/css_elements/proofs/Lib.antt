mod Growing
mod Ranges
pub mod Languages
pub mod ErrorWrites
pub mod Walking
