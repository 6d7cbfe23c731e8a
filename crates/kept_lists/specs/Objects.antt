-- What a list is that is kept.
use Rattle.std.specs.Prelude.{ℕ, List, [], Option, None, Some, string_bytes}
use Rattle.kept_lists.specs.declared.kept.Kept.{Kept}
use Rattle.kept_lists.specs.declared.read_list.ListGrammar.{ListGrammar}
use Rattle.kept_lists.specs.Lists.{ListSource, made_of}
use Rattle.kept_lists.specs.Visits.{HoldsList, source_of}

-- what an object is made of, and that its selectors are there and are those of the text
abbrev pub kept_text : Option Kept → List ℕ
kept_text None = []
kept_text (Some kept) = string_bytes kept.read_of

abbrev pub kept_source : ListGrammar → Option Kept → ListSource
kept_source grammar kept = made_of grammar (kept_text kept)

abbrev pub IsOpen : ListGrammar → Option Kept → Type 0
IsOpen grammar None = ⊥
IsOpen grammar (Some kept) = HoldsList (source_of grammar kept.read_of) kept.value
