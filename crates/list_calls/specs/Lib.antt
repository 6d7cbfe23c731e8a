pub mod ListCalls
