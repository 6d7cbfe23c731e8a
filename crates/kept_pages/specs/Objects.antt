-- What a page is that is kept.
use Rattle.std.specs.Prelude.{[], Option, None, Some}
use Rattle.call_answers.specs.Calls.{Passed}
use Rattle.page_calls.specs.declared.modern.document_kind.DocumentKind.{DocumentKind}
use Rattle.kept_pages.specs.Sources.{PageSource, made_of, page_source, passed_in}
use Rattle.kept_pages.specs.Visits.{HoldsPage}
use Rattle.kept_pages.specs.declared.kept.Kept.{Kept}

-- what is passed of a tree without elements
abbrev pub nothing_passed : Passed
nothing_passed = record { elements = []; strings = []; ends = []; attributes = []; states = 0; prefixes = [] }

-- what an object is made of, and that its page is there and is that of the tree
abbrev pub kept_passed : Option Kept → Passed
kept_passed None = nothing_passed
kept_passed (Some kept) = passed_in kept.read_of

abbrev pub kept_source : DocumentKind → Option Kept → PageSource
kept_source kind kept = page_source kind (kept_passed kept)

abbrev pub IsOpen : DocumentKind → Option Kept → Type 0
IsOpen kind None = ⊥
IsOpen kind (Some kept) = HoldsPage (made_of kind kept.read_of) kept.value
