-- What contracts see of a reader of the parts of a sheet.
use Rattle.std.specs.Prelude.{◌≡◌, ℕ, ◌+◌, ◌<◌, Bool, List, [], ◌∷◌, map, length, Option, Some, None}
use Rattle.css_syntax.specs.Views.{prelude_of}
use Rattle.css_selector_text.specs.NameViews.{names_of}
use Rattle.css_sheet.specs.declared.parts.Nesting.{Nesting}
use Rattle.css_sheet.specs.declared.parts.Nesting.TheVariants as nestings
use Rattle.css_sheet.specs.declared.parts.OpenRule.{OpenRule}
use Rattle.css_sheet.specs.declared.parts.Part.{Part}
use Rattle.css_sheet.specs.declared.parts.SheetParts.{SheetParts}
use Rattle.css_sheet.specs.SheetParts.{OpenText, SheetPart, PlacedPart, Source, parts_given, parts_in, placed_part, outside, within, nested}
use Rattle.css_sheet.specs.Sheets.{GroupRuleText}
use Rattle.css_sheet.specs.ContentViews.{kind_of, part_of}
use Rattle.css_sheet.specs.GroupViews.{group_rule_of}
use Rattle.css_sheet.specs.SheetParts.{Nesting as NestingText}

abbrev pub nesting_text : Nesting → NestingText
nesting_text nestings.Outside = outside
nesting_text (nestings.Within prelude) = within (prelude_of prelude)
nesting_text nestings.Nested = nested

abbrev pub open_of : OpenRule → OpenText
open_of rule = record {
  kind = kind_of rule.kind;
  nesting = nesting_text rule.nesting;
  applies = rule.applies;
  place = rule.place;
}

-- the rules that are open, from the outermost
abbrev pub open_in : SheetParts → List OpenText
open_in r = map open_of r.around.items

-- what is left of the sheet
abbrev pub left_in : SheetParts → List ℕ
left_in r = r.rest.now

-- what is left of it from the part on that was read last
abbrev pub from_in : SheetParts → List ℕ
from_in r = r.from.now

-- the group rules that are still to begin of those that all of the sheet is in
abbrev pub given_in : SheetParts → List GroupRuleText
given_in r = map group_rule_of r.given.now

-- the text that the sheet is
abbrev pub source_of : SheetParts → Source
source_of r = record {
  sheet = r.sheet;
  size = r.size;
  depth = r.depth;
  names = names_of r.names.now;
}

-- the parts of the sheet that are still to come
abbrev pub parts_to_come : (List ℕ → List ℕ → Bool) → SheetParts → List PlacedPart
parts_to_come holds r = parts_given holds (source_of r) (open_in r) (given_in r) (left_in r)

-- a part that was read last
abbrev pub placed_last : SheetParts → SheetPart → PlacedPart
placed_last r part = placed_part (source_of r) (from_in r) part (open_in r) (left_in r)

-- A call returned the first of the parts that were to come, and the others still are; or none was to
-- come, and none is.
abbrev pub GivesPart : (List ℕ → List ℕ → Bool) → SheetParts → Option Part → SheetParts → Type 0
GivesPart holds before None after = parts_to_come holds before ≡ []
GivesPart holds before (Some part) after =
    parts_to_come holds before ≡ placed_last after (part_of part) ∷ parts_to_come holds after

-- the same of what is left of the text, once all of its group rules have begun
abbrev pub GivesNext : (List ℕ → List ℕ → Bool) → SheetParts → Option Part → SheetParts → Type 0
GivesNext holds before None after =
    parts_in holds (source_of before) (open_in before) (left_in before) ≡ []
GivesNext holds before (Some part) after =
    parts_in holds (source_of before) (open_in before) (left_in before)
    ≡ placed_last after (part_of part)
    ∷ parts_in holds (source_of after) (open_in after) (left_in after)

abbrev pub NextShrinks : SheetParts → Option Part → SheetParts → Type 0
NextShrinks before None after = Unit {0}
NextShrinks before (Some part) after = length (left_in after) < length (left_in before)

-- how many group rules are to begin, and how many bytes are left
abbrev pub left_count : SheetParts → ℕ
left_count r = length (given_in r) + length (left_in r)

-- a part begins one of these, or takes a byte or more
abbrev pub PartShrinks : SheetParts → Option Part → SheetParts → Type 0
PartShrinks before None after = Unit {0}
PartShrinks before (Some part) after = left_count after < left_count before
