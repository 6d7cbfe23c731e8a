pub mod WinnerSteps
pub mod WinnerCalls
pub mod OwnTexts
mod FirstConditions
