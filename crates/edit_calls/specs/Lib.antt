pub mod EditCalls
