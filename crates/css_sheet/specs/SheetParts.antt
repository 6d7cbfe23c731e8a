-- The parts of sheets, one after another and in place, each with the rules that are open there: the
-- style rules that it is nested in, and the group rules (CSS Nesting 1; CSS Conditional Rules 3).
use Rattle.std.specs.Prelude.{ℕ, zero, suc, ◌+◌, ◌-◌, Bool, true, false, ◌&&◌, List, [], ◌∷◌, ◌++◌, length, take, drop, slice_get, Option, Some, None}
use Rattle.css_text.specs.Reading.{each, before}
use Rattle.css_syntax.specs.Parts.{Stated}
use Rattle.css_syntax.specs.Statements.{block, BlockText, past_between}
use Rattle.css_syntax.specs.DeclarationLists.{ItemText, at_rule_item, past_separators}
use Rattle.css_syntax.specs.Blocks.{BlockPart, listed, opens_rule, opens_at_rule, closes, next_block_part, next_rule_part}
use Rattle.css_selector_text.specs.Names.{Names}
use Rattle.css_sheet.specs.SheetItems.{group_keyword}
use Rattle.css_sheet.specs.Namespaces.{sheet_names}
use Rattle.css_sheet.specs.Sheets.{GroupRuleText, SheetText}

-- ---- the rules that are open

-- A rule: a style rule, by what is before its block; or a group rule, by the keyword that its name is
-- and by its prelude.
pub data RuleKind : Type 0 where
  style_rule : (prelude : Stated) → RuleKind
  group_rule : (keyword prelude : List ℕ) → RuleKind

-- How many style rules something is in: none; one, by what is before its block; or more.
pub data Nesting : Type 0 where
  outside : Nesting
  within : (prelude : Stated) → Nesting
  nested : Nesting

-- A rule that is open; what its contents are in; whether they apply, since it and all group rules
-- that it is in hold; and the place of its contents: the number of the text that it is in, and an offset
-- there. No two rules that begin in texts have the same place.
pub record OpenText : Type 0 where
  pub kind : RuleKind
  pub nesting : Nesting
  pub applies : Bool
  pub place : List ℕ

abbrev pub nesting_at : Option OpenText → Nesting
nesting_at None = outside
nesting_at (Some rule) = rule.nesting

-- what is next is in, where these rules are open, from the outermost
abbrev pub nesting_of : List OpenText → Nesting
nesting_of around = nesting_at (slice_get around (length around - 1))

abbrev pub applies_at : Option OpenText → Bool
applies_at None = true
applies_at (Some rule) = rule.applies

-- whether what is next applies
abbrev pub applies_in : List OpenText → Bool
applies_in around = applies_at (slice_get around (length around - 1))

abbrev pub is_some_open : List OpenText → Bool
is_some_open [] = false
is_some_open (rule ∷ around) = true

-- what is in a style rule with this prelude, where the rule is in these
abbrev pub deeper : Stated → Nesting → Nesting
deeper prelude outside = within prelude
deeper prelude (within other) = nested
deeper prelude nested = nested

abbrev pub nesting_in : RuleKind → Nesting → Nesting
nesting_in (style_rule prelude) outer = deeper prelude outer
nesting_in (group_rule keyword prelude) outer = outer

-- whether the rule holds, by what is said of the keyword and the prelude of each group rule
abbrev pub kind_holds : (List ℕ → List ℕ → Bool) → RuleKind → Bool
kind_holds holds (style_rule prelude) = true
kind_holds holds (group_rule keyword prelude) = holds keyword prelude

-- ---- parts

-- A part of a sheet: declarations in a style rule, with what is skipped between them and at-rules
-- that are no group rules, as they stand there; a rule that begins, and then its contents follow; the
-- end of the innermost rule; or an item outside of style rules.
pub data SheetPart : Type 0 where
  states : (text : List ℕ) → SheetPart
  begins : RuleKind → SheetPart
  ends : SheetPart
  stands : ItemText → SheetPart

-- the rest after a part of a block, if the part is among declarations: a group rule is not, nor is a
-- nested rule
abbrev pub after_at_rule : Option (List ℕ) → List ℕ → Option (Unit {0} × List ℕ)
after_at_rule None rest = Some (tt, (block rest).1)
after_at_rule (Some keyword) rest = None

abbrev pub among_declarations : Option (BlockPart × List ℕ) → Option (Unit {0} × List ℕ)
among_declarations None = None
among_declarations (Some (listed item, rest)) = Some (tt, rest)
among_declarations (Some (opens_rule prelude, rest)) = None
among_declarations (Some (opens_at_rule name prelude, rest)) = after_at_rule (group_keyword name) rest
among_declarations (Some (closes, rest)) = None

unfoldable pub run_part : List ℕ → Option (Unit {0} × List ℕ)
run_part text = among_declarations (next_block_part text)

-- the rest after all declarations that follow one another from here on
abbrev pub past_run : List ℕ → List ℕ
past_run text = (each run_part text).1

-- the declarations from this start on, of which this is left after the first
abbrev pub stated_from : (start rest : List ℕ) → SheetPart × List ℕ
stated_from start rest = (states (before start (past_run rest)), past_run rest)

abbrev pub at_rule_in : (start : List ℕ) → Stated → (rest : List ℕ) → Option (List ℕ)
    → SheetPart × List ℕ
at_rule_in start prelude rest None = stated_from start (block rest).1
at_rule_in start prelude rest (Some keyword) = (begins (group_rule keyword prelude.text), rest)

-- a part of the block of a style rule, which begins at this start
abbrev pub part_inside : (start : List ℕ) → BlockPart × List ℕ → SheetPart × List ℕ
part_inside start (listed item, rest) = stated_from start rest
part_inside start (opens_rule prelude, rest) = (begins (style_rule prelude), rest)
part_inside start (opens_at_rule name prelude, rest) =
    at_rule_in start prelude rest (group_keyword name)
part_inside start (closes, rest) = (ends, rest)

abbrev pub option_inside : (start : List ℕ) → Option (BlockPart × List ℕ)
    → Option (SheetPart × List ℕ)
option_inside start None = None
option_inside start (Some found) = Some (part_inside start found)

abbrev pub next_inside : List ℕ → Option (SheetPart × List ℕ)
next_inside text = option_inside (past_separators text) (next_block_part text)

abbrev pub with_block : (name : List ℕ) → Stated → BlockText × List ℕ → SheetPart × List ℕ
with_block name prelude found =
    (stands (at_rule_item (record { name = name; prelude = prelude; block = Some found.0 })), found.1)

abbrev pub at_rule_outside : (name : List ℕ) → Stated → (rest : List ℕ) → Option (List ℕ)
    → SheetPart × List ℕ
at_rule_outside name prelude rest None = with_block name prelude (block rest)
at_rule_outside name prelude rest (Some keyword) = (begins (group_rule keyword prelude.text), rest)

-- a part outside of style rules
abbrev pub part_outside : BlockPart × List ℕ → SheetPart × List ℕ
part_outside (listed item, rest) = (stands item, rest)
part_outside (opens_rule prelude, rest) = (begins (style_rule prelude), rest)
part_outside (opens_at_rule name prelude, rest) =
    at_rule_outside name prelude rest (group_keyword name)
part_outside (closes, rest) = (ends, rest)

abbrev pub option_outside : Option (BlockPart × List ℕ) → Option (SheetPart × List ℕ)
option_outside None = None
option_outside (Some found) = Some (part_outside found)

abbrev pub next_outside : Bool → List ℕ → Option (SheetPart × List ℕ)
next_outside in_block text = option_outside (next_rule_part in_block text)

-- the next part, by the grammar of what it is in
abbrev pub next_by : Nesting → (in_block : Bool) → List ℕ → Option (SheetPart × List ℕ)
next_by outside in_block text = next_outside in_block text
next_by (within prelude) in_block text = next_inside text
next_by nested in_block text = next_inside text

-- what is left after what is before a part: space bytes and comments; in a style rule semicolons, too; in no
-- rule `<!--` and `-->`, too
abbrev pub past_before : Nesting → (in_block : Bool) → List ℕ → List ℕ
past_before outside in_block text = past_between in_block text
past_before (within prelude) in_block text = past_separators text
past_before nested in_block text = past_separators text

-- whether more than `depth` rules are open
abbrev pub is_more_open : (depth : ℕ) → List OpenText → Bool
is_more_open depth around = is_some_open (drop depth around)

-- the next part of a text that is in `depth` group rules, whose top level is no block
unfoldable pub next_in : (depth : ℕ) → List OpenText → List ℕ → Option (SheetPart × List ℕ)
next_in depth around text = next_by (nesting_of around) (is_more_open depth around) text

-- what is left of such a text from its next part on
abbrev pub from_part : (depth : ℕ) → List OpenText → List ℕ → List ℕ
from_part depth around text = past_before (nesting_of around) (is_more_open depth around) text

-- ---- all parts

-- the rule that begins where these are open, whose contents have this place
abbrev pub opened : (List ℕ → List ℕ → Bool) → List OpenText → RuleKind → (place : List ℕ)
    → OpenText
opened holds around kind place = record {
  kind = kind;
  nesting = nesting_in kind (nesting_of around);
  applies = applies_in around && kind_holds holds kind;
  place = place;
}

-- what is open after a part, which ends at this place
abbrev pub open_after : (List ℕ → List ℕ → Bool) → List OpenText → SheetPart → (place : List ℕ)
    → List OpenText
open_after holds around (states text) place = around
open_after holds around (begins kind) place = around ++ opened holds around kind place ∷ []
open_after holds around ends place = take (length around - 1) around
open_after holds around (stands item) place = around

-- A part; what is left of its text from it on; what is open after it, with what it begins; the names that its
-- text declares; and the number of the text that it is in and the offset there at which it ends.
pub record PlacedPart : Type 0 where
  pub part : SheetPart
  pub from : List ℕ
  pub around : List OpenText
  pub names : Names
  pub sheet : ℕ
  pub end : ℕ

-- A text: its number among all, from 0 on; how many bytes it has; how many group rules all of it is in; and the
-- names that it declares.
pub record Source : Type 0 where
  pub sheet : ℕ
  pub size : ℕ
  pub depth : ℕ
  pub names : Names

-- the offset in it from which on this is left
abbrev pub offset_in : Source → List ℕ → ℕ
offset_in source rest = source.size - length rest

abbrev pub place_at : Source → List ℕ → List ℕ
place_at source rest = source.sheet ∷ offset_in source rest ∷ []

-- a part from which on this is left, and after it this, where these rules are open
abbrev pub placed_part : Source → (from : List ℕ) → SheetPart → List OpenText → (rest : List ℕ)
    → PlacedPart
placed_part source from part around rest = record {
  part = part;
  from = from;
  around = around;
  names = source.names;
  sheet = source.sheet;
  end = offset_in source rest;
}

-- the parts where these rules are open, of which the first begins from here on, by those after it
abbrev pub part_then : (List ℕ → List ℕ → Bool) → Source
    → (List OpenText → List ℕ → List PlacedPart) → List OpenText → (from : List ℕ)
    → Option (SheetPart × List ℕ) → List PlacedPart
part_then holds source more around from None = []
part_then holds source more around from (Some found) =
    placed_part source from found.0 (open_after holds around found.0 (place_at source found.1)) found.1
    ∷ more (open_after holds around found.0 (place_at source found.1)) found.1

-- Each part takes a byte or more, so as many as there are bytes are all. They are read by the grammar of what
-- they are in in this text, whose top level is one in group rules, too.
unfoldable pub parts_from : (List ℕ → List ℕ → Bool) → Source → ℕ → List OpenText → List ℕ
    → List PlacedPart
parts_from holds source zero around text = []
parts_from holds source (suc n) around text =
    part_then holds source (parts_from holds source n) around (from_part source.depth around text)
    (next_in source.depth around text)

-- the parts from here on in a text, where these rules are open
abbrev pub parts_in : (List ℕ → List ℕ → Bool) → Source → List OpenText → List ℕ
    → List PlacedPart
parts_in holds source around text = parts_from holds source (length text) around text

-- a group rule that all of a sheet is in, as a rule of its own
abbrev pub given_kind : GroupRuleText → RuleKind
given_kind rule = group_rule rule.keyword rule.prelude

-- the place of its contents: one that no rule of a text has, since the contents of none begin at its start
abbrev pub given_place : GroupRuleText → List ℕ
given_place rule = rule.number ∷ 0 ∷ []

-- what is open when it has begun
abbrev pub open_given : (List ℕ → List ℕ → Bool) → List OpenText → GroupRuleText → List OpenText
open_given holds around rule = open_after holds around (begins (given_kind rule)) (given_place rule)

-- The parts of a text that is in further group rules, where these are open: each of them begins before the
-- text does, and none ends.
abbrev pub parts_given : (List ℕ → List ℕ → Bool) → Source → List OpenText → List GroupRuleText
    → List ℕ → List PlacedPart
parts_given holds source around [] text = parts_in holds source around text
parts_given holds source around (rule ∷ rules) text =
    placed_part source text (begins (given_kind rule)) (open_given holds around rule) text
    ∷ parts_given holds source (open_given holds around rule) rules text

-- the text of the sheet of this number
abbrev pub sheet_source : (number : ℕ) → SheetText → Source
sheet_source number sheet = record {
  sheet = number;
  size = length sheet.text;
  depth = length sheet.around;
  names = sheet_names sheet;
}

-- The parts of the sheet of this number, where a group rule holds as `holds` says of its keyword and
-- its prelude.
abbrev pub sheet_parts : (List ℕ → List ℕ → Bool) → (number : ℕ) → SheetText → List PlacedPart
sheet_parts holds number sheet =
    parts_given holds (sheet_source number sheet) [] sheet.around sheet.text

-- the parts of sheets, one after another, of which the first has this number; each ends what is open in
-- it
abbrev pub all_parts_from : (List ℕ → List ℕ → Bool) → (number : ℕ) → List SheetText
    → List PlacedPart
all_parts_from holds number [] = []
all_parts_from holds number (sheet ∷ sheets) =
    sheet_parts holds number sheet ++ all_parts_from holds (number + 1) sheets

-- the parts of sheets
abbrev pub all_parts : (List ℕ → List ℕ → Bool) → List SheetText → List PlacedPart
all_parts holds sheets = all_parts_from holds 0 sheets
