pub mod ModernPages
pub mod ModernLists
pub mod MarkCalls
pub mod ModernCalls
pub mod RangeCalls
