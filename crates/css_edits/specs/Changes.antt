-- What an edit makes of what a sheet says.
use Rattle.std.specs.Prelude.{ℕ, suc, ◌-◌, Bool, true, false, ◌&&◌, ◌||◌, ◌==◌, if◌then◌else◌, nat_lt, List, [], ◌∷◌, ◌++◌, codes, length, map, take, drop, Option, Some}
use Rattle.css_syntax.specs.Parts.{Stated}
use Rattle.css_syntax.specs.DeclarationLists.{DeclarationText, ItemText, declared, at_rule_item, skipped_item}
use Rattle.css_syntax.specs.Statements.{AtRuleText}
use Rattle.css_sheet.specs.SheetParts.{RuleKind, style_rule, group_rule}
use Rattle.css_edits.specs.Entries.{SaidText, opens, closes, holds, EntryText, said_of, said_in, is_whole, depth_past}
use Rattle.css_edits.specs.declared.edits.Edit.{Edit}
use Rattle.css_edits.specs.declared.edits.Change.{Change}
use Rattle.css_edits.specs.declared.edits.Change.TheVariants.{Prelude, Value, Block, Statements, Contents}

-- ---- a piece of one entry

-- a text that is as good
abbrev pub stated : (text : List ℕ) → Stated → Stated
stated text old = record { text = text; quality = old.quality }

abbrev pub kind_with : (text : List ℕ) → RuleKind → RuleKind
kind_with text (style_rule prelude) = style_rule (stated text prelude)
kind_with text (group_rule keyword prelude) = group_rule keyword text

abbrev pub at_rule_with : (text : List ℕ) → AtRuleText → AtRuleText
at_rule_with text rule = record { name = rule.name; prelude = stated text rule.prelude; block = rule.block }

abbrev pub prelude_item : (text : List ℕ) → ItemText → ItemText
prelude_item text (declared one) = declared one
prelude_item text (at_rule_item rule) = at_rule_item (at_rule_with text rule)
prelude_item text (skipped_item fault) = skipped_item fault

-- with this text before the block of a rule, or after the name of an at-rule
abbrev pub with_prelude : (text : List ℕ) → SaidText → SaidText
with_prelude text (opens kind) = opens (kind_with text kind)
with_prelude text closes = closes
with_prelude text (holds item) = holds (prelude_item text item)

abbrev pub declaration_with : (text : List ℕ) → DeclarationText → DeclarationText
declaration_with text one = record {
  name = one.name;
  value = text;
  important = one.important;
  closed = true;
}

abbrev pub value_item : (text : List ℕ) → ItemText → ItemText
value_item text (declared one) = declared (declaration_with text one)
value_item text (at_rule_item rule) = at_rule_item rule
value_item text (skipped_item fault) = skipped_item fault

-- with this value, if it is a declaration
abbrev pub with_value : (text : List ℕ) → SaidText → SaidText
with_value text (opens kind) = opens kind
with_value text closes = closes
with_value text (holds item) = holds (value_item text item)

abbrev pub block_with : (text : List ℕ) → AtRuleText → AtRuleText
block_with text rule = record {
  name = rule.name;
  prelude = rule.prelude;
  block = Some (record { text = text; closed = true });
}

abbrev pub block_item : (text : List ℕ) → ItemText → ItemText
block_item text (declared one) = declared one
block_item text (at_rule_item rule) = at_rule_item (block_with text rule)
block_item text (skipped_item fault) = skipped_item fault

-- with a block that has this text, if it is an at-rule
abbrev pub with_block : (text : List ℕ) → SaidText → SaidText
with_block text (opens kind) = opens kind
with_block text closes = closes
with_block text (holds item) = holds (block_item text item)

-- what such an edit makes of an entry
abbrev pub piece : Change → (text : List ℕ) → SaidText → SaidText
piece Prelude text said = with_prelude text said
piece Value text said = with_value text said
piece Block text said = with_block text said
piece Statements text said = said
piece Contents text said = said

-- ---- entries

-- a style rule with this text in its block
abbrev pub in_rule : List ℕ → List ℕ
in_rule text = codes "a{" ++ (text ++ codes "}")

-- what is between the first and the last
abbrev pub inside : List SaidText → List SaidText
inside said = take (length said - 2) (drop 1 said)

-- what a text says as the contents of a style rule
abbrev pub said_inside : List ℕ → List SaidText
said_inside text = inside (said_in (in_rule text))

-- what entries become
abbrev pub changed : Change → (text : List ℕ) → List SaidText → List SaidText
changed Prelude text old = map (piece Prelude text) old
changed Value text old = map (piece Value text) old
changed Block text old = map (piece Block text) old
changed Statements text old = said_in text
changed Contents text old = said_inside text

-- Statements go and come in no style rule, and contents in one. In what goes each rule that begins ends, and no
-- other; and so it is in what comes.
abbrev pub may_change : Change → (text : List ℕ) → (depth : ℕ) → List SaidText → Bool
may_change Prelude text depth old = true
may_change Value text depth old = true
may_change Block text depth old = true
may_change Statements text depth old = depth == 0 && (is_whole old && is_whole (said_in text))
may_change Contents text depth old =
    nat_lt 0 depth
    && (is_whole old && (is_whole (said_in (in_rule text)) && is_whole (said_inside text)))

-- ---- which entries

-- how many entries, of those at the front, begin before an offset, or also with it
abbrev pub before : (with : Bool) → (offset : ℕ) → List EntryText → ℕ
before with offset [] = 0
before with offset (e ∷ more) =
    if nat_lt e.start offset || (with && e.start == offset) then suc (before with offset more) else 0

-- how many entries come before those that an edit changes: a piece is of the last one that begins before it
-- or with it
abbrev pub count_before : Change → (from : ℕ) → List EntryText → ℕ
count_before Prelude from old = before true from old - 1
count_before Value from old = before true from old - 1
count_before Block from old = before true from old - 1
count_before Statements from old = before false from old
count_before Contents from old = before false from old

-- how many it changes, of those that are left: one, or those that begin before it ends
abbrev pub count_in : Change → (to : ℕ) → List EntryText → ℕ
count_in Prelude to old = 1
count_in Value to old = 1
count_in Block to old = 1
count_in Statements to old = before false to old
count_in Contents to old = before false to old

-- the entries from the first that an edit changes on
abbrev pub from_edit : Edit → List EntryText → List EntryText
from_edit e old = drop (count_before e.change e.from old) old

-- those before it, those that it changes, and those after these
abbrev pub kept_before : Edit → List EntryText → List EntryText
kept_before e old = take (count_before e.change e.from old) old

abbrev pub in_edit : Edit → List EntryText → List EntryText
in_edit e old = take (count_in e.change e.to (from_edit e old)) (from_edit e old)

abbrev pub after_edit : Edit → List EntryText → List EntryText
after_edit e old = drop (count_in e.change e.to (from_edit e old)) (from_edit e old)

-- What a sheet with edits says: what it said, with what each edit makes of the entries that it changes.
abbrev pub edited : List EntryText → List Edit → List SaidText
edited old [] = map said_of old
edited old (e ∷ edits) =
    map said_of (kept_before e old)
    ++ (changed e.change e.text.now (map said_of (in_edit e old)) ++ edited (after_edit e old) edits)

-- in how many rules an edit is, counted from the outermost style rule, where what is left is in so many
abbrev pub depth_at : (depth : ℕ) → Edit → List EntryText → ℕ
depth_at depth e old = depth_past depth (map said_of (kept_before e old))

abbrev pub depth_left : (depth : ℕ) → Edit → List EntryText → ℕ
depth_left depth e old = depth_past (depth_at depth e old) (map said_of (in_edit e old))

-- each of the edits may be made
abbrev pub may_be_made : (depth : ℕ) → List EntryText → List Edit → Bool
may_be_made depth old [] = true
may_be_made depth old (e ∷ edits) =
    may_change e.change e.text.now (depth_at depth e old) (map said_of (in_edit e old))
    && may_be_made (depth_left depth e old) (after_edit e old) edits
