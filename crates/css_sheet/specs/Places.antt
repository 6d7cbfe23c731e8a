-- Where a statement is: the offsets of its pieces in the sheet, by the offset at which the text that
-- it is in ends, and by what is left of that text from the piece on.
use Rattle.std.specs.Prelude.{ℕ, ◌+◌, ◌-◌, Bool, List, length, Option, None, Some}
use Rattle.css_syntax.specs.Statements.{BlockText, StatementText, rule_set, at_rule_statement, skipped_statement}
use Rattle.css_syntax.specs.Contents.{at_rule_prelude, statement_contents}
use Rattle.css_syntax.specs.Placed.{PlacedStatement}
use Rattle.css_sheet.specs.declared.state.Places.{Places}

-- Where a statement is: its first byte, that of its prelude, and that of the contents of its block
-- with the byte after these.
pub record PlacesText : Type 0 where
  pub start : ℕ
  pub prelude : ℕ
  pub block : ℕ
  pub block_end : ℕ

-- what is told before the first item
abbrev pub no_places : PlacesText
no_places = record { start = 0; prelude = 0; block = 0; block_end = 0 }

-- what contracts see of places
abbrev pub places_of : Places → PlacesText
places_of p = record {
  start = p.start;
  prelude = p.prelude;
  block = p.block;
  block_end = p.block_end;
}

-- what is left from the prelude of a statement on
abbrev pub prelude_in : StatementText → List ℕ → List ℕ
prelude_in (rule_set prelude block) from = from
prelude_in (at_rule_statement rule) from = at_rule_prelude from
prelude_in (skipped_statement fault) from = from

-- how many bytes the contents of a block have, if there is one
abbrev pub block_size : Option BlockText → ℕ
block_size None = 0
block_size (Some block) = length block.text

abbrev pub block_length : StatementText → ℕ
block_length (rule_set prelude block) = length block.text
block_length (at_rule_statement rule) = block_size rule.block
block_length (skipped_statement fault) = 0

-- the places of a statement from which on `from` is left, and `inside` from the contents of its
-- block on
abbrev pub places_by : (end : ℕ) → StatementText → (from inside : List ℕ) → PlacesText
places_by end statement from inside = record {
  start = end - length from;
  prelude = end - length (prelude_in statement from);
  block = end - length inside;
  block_end = (end - length inside) + block_length statement;
}

-- the places of a statement in a text that ends at this offset
abbrev pub places_in : (end : ℕ) → Bool → PlacedStatement → PlacesText
places_in end in_block placed =
    places_by end placed.part.statement placed.from (statement_contents in_block placed.from)
