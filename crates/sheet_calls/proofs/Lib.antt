pub mod Utf8Tests
pub mod ValueCalls
pub mod ImportSteps
pub mod ImportVectors
