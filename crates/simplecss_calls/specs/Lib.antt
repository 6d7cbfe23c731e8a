pub mod Asked
pub mod ExplainNumbers
pub mod Grammars
pub mod GrammarCalls
pub mod WinnerNumbers
pub mod RuleTexts
pub mod internal
