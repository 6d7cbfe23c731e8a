-- A sheet that is cut where one of its at-rules begins, such as an `@import`.
use Rattle.std.specs.Prelude.{◌≡◌, ℕ, ◌-◌, Bool, true, List, ◌++◌, length}
use Rattle.std.specs.List.{Contains}
use Rattle.css_text.specs.AsciiBytes.{at_sign}
use Rattle.css_text.specs.Bytes.{starts}
use Rattle.css_syntax.specs.DeclarationLists.{ItemText}
use Rattle.css_sheet.specs.SheetParts.{OpenText, PlacedPart, Source, nesting_of, outside, parts_in, stands}

-- The text in front of a rest. It has the number, the group rules and the names of the whole, and its parts end at the
-- offsets that they have there.
abbrev pub front_of : Source → (rest : List ℕ) → Source
front_of source rest = record source { size = source.size - length rest }

-- a part of the front as one of the whole: what follows it is what follows in the front, and then the rest
abbrev pub before_rest : (rest : List ℕ) → PlacedPart → PlacedPart
before_rest rest placed = record placed { from = placed.from ++ rest }

-- A text is cut before this rest: one of its at-rules, as an `@import`, begins there, in no rule but the group rules
-- that all of the text is in.
pub record IsCut (holds : List ℕ → List ℕ → Bool) (source : Source) (around : List OpenText) (front rest : List ℕ)
    : Type 0 where
  pub at_rule : PlacedPart
  pub item : ItemText
  pub there : Contains (parts_in holds source around (front ++ rest)) at_rule
  pub is_item : at_rule.part ≡ stands item
  pub begins_there : at_rule.from ≡ rest
  pub in_no_rule : at_rule.around ≡ around
  pub sign : starts at_sign rest ≡ true
  pub in_groups : nesting_of around ≡ outside
