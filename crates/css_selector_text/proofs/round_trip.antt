-- What is printed reads back.
pub mod PrintLemmas
pub mod ListTexts
pub mod ReadingLemmas
pub mod ArgumentLemmas
pub mod SpelledAgain
pub mod NumbersAgain
pub mod NestedLists
pub mod SimplesAgain
pub mod CompoundsAgain
pub mod SelectorsAgain
pub mod ReadSimples
pub mod ReadWellFormed
pub mod NestedPrints
pub mod DefaultTexts
pub mod NestedTexts
pub mod EscapedAgain
pub mod ReadEnds
