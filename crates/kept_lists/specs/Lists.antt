-- Which lists of selectors texts are.
use Rattle.std.specs.Prelude.{◌≡◌, ℕ, if◌then◌else◌, List, Option, None, Some, is_none, map, option_map}
use Rattle.css_text.specs.ThisEdition.{this_edition}
use Rattle.css_selector_text.specs.Names.{no_names}
use Rattle.css_selector_text.specs.Components.{Placed}
use Rattle.css_selector_text.specs.reading.Grammar.{placed_list}
use Rattle.css_selector_text.specs.reading.ReadViews.{placed_of}
use Rattle.css_selector_text.specs.reading.Supported.{first_unsupported}
use Rattle.css_selector_text.specs.reading.Readings.{Reading as Reads, got, refused}
use Rattle.simplecss_grammar.specs.Components.{Component}
use Rattle.simplecss_selector.specs.SelectorLists.{list_of}
use Rattle.kept_lists.specs.declared.read_list.ListError.{ListError}
use Rattle.kept_lists.specs.declared.read_list.ListError.TheVariants.{Refused, Memory}
use Rattle.kept_lists.specs.declared.read_list.ListGrammar.{ListGrammar}
use Rattle.kept_lists.specs.declared.read_list.ListGrammar.TheVariants.{Modern, Port}
use Rattle.kept_lists.specs.declared.read_list.ReadList.{ReadList}
use Rattle.kept_lists.specs.declared.read_list.ReadList.TheVariants as read

-- what a list is made of: a text, and the grammar that reads it
pub record ListSource : Type 0 where
  pub grammar : ListGrammar
  pub text : List ℕ

abbrev pub made_of : ListGrammar → List ℕ → ListSource
made_of grammar text = record { grammar = grammar; text = text }

-- the selectors of a list: modern ones, with where they are, or those of the port
pub data ListText : Type 0 where
  modern_list : List Placed → ListText
  port_list : List (List Component) → ListText

-- these, if all have a meaning
abbrev pub if_all_supported : List Placed → Option (List Placed)
if_all_supported all = if is_none (first_unsupported all) then Some all else None

abbrev pub if_listed : Reads (List Placed) → Option (List Placed)
if_listed (got all rest) = if_all_supported all
if_listed (refused why rest) = None

-- the modern selectors that the text is a list of, with where they are, if it is one and all have a meaning
abbrev pub listed_in : List ℕ → Option (List Placed)
listed_in text = if_listed (placed_list no_names text)

abbrev pub listed_by : ListGrammar → List ℕ → Option ListText
listed_by Modern text = option_map modern_list (listed_in text)
listed_by Port text = option_map port_list (list_of this_edition text)

-- the list that the text is by the grammar, if it is one
abbrev pub list_made_of : ListSource → Option ListText
list_made_of source = listed_by source.grammar source.text

-- the selectors of a list that was read
abbrev pub selectors_in : ReadList → ListText
selectors_in (read.Modern all) = modern_list (map placed_of all.items)
selectors_in (read.Port all) = port_list all.items

-- why the text is no list by the grammar: a refused one is none
abbrev pub IsNoList : ListSource → ListError → Type 0
IsNoList source Refused = list_made_of source ≡ None
IsNoList source Memory = Unit {0}
