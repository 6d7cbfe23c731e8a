pub mod Slot
pub mod Text
