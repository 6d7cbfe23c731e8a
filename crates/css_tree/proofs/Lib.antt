mod AmpersandLemmas
pub mod AnsweredLemmas
mod AskedLemmas
mod ChainLemmas
mod Counting
mod Grouping
mod MarkLemmas
mod MeaningPlaces
mod MeaningSelectors
pub mod MeaningSheets
mod MeaningShrinks
mod Numbering
mod SurroundingLemmas
mod Reporting
mod HtmlLemmas
mod HtmlStateLemmas
mod LanguageLemmas
mod KindLemmas
mod AttributeLemmas
mod LanguageNames
mod Walking
mod PageSteps
mod PageElements
mod StepLemmas
mod HasLemmas
mod CountLemmas
mod VisitLemmas
