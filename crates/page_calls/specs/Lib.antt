pub mod Readings
pub mod ModernLines
pub mod ModernCalls
pub mod MarkedPages
pub mod Ranges
