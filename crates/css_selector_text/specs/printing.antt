-- The text of a selector.
pub mod Printing
pub mod Escaping
pub mod WellFormed
