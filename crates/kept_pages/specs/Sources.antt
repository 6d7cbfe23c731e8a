-- What pages are made of.
use Rattle.call_answers.specs.Calls.{Passed}
use Rattle.page_calls.specs.declared.modern.document_kind.DocumentKind.{DocumentKind}
use Rattle.kept_pages.specs.declared.arrays.PageArrays.{PageArrays}

-- what a page is made of: a tree that is passed, and how its document reads the names of selectors
pub record PageSource : Type 0 where
  pub kind : DocumentKind
  pub passed : Passed

abbrev pub page_source : DocumentKind → Passed → PageSource
page_source kind passed = record { kind = kind; passed = passed }

-- the tree of which this is the copy
abbrev pub passed_in : PageArrays → Passed
passed_in arrays = record {
  elements = arrays.elements.items;
  strings = arrays.strings.items;
  ends = arrays.ends.items;
  attributes = arrays.attributes.items;
  states = arrays.states;
  prefixes = arrays.prefixes.items;
}

-- what a page of the copy is made of
abbrev pub made_of : DocumentKind → PageArrays → PageSource
made_of kind arrays = page_source kind (passed_in arrays)
