pub mod InlineCalls
