pub mod HtmlCalls
pub mod EditCalls
pub mod QueryNumbers
pub mod SheetQuestions
pub mod InlineCalls
