pub mod Conditions
pub mod Functions
pub mod NumberLines
pub mod Values
pub mod ImportLines
pub mod ContentNumbers
pub mod Spellings
pub mod internal
