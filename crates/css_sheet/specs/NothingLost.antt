-- Nothing is lost: every byte of a sheet is in one of its items, in the head or the closing brace of a
-- group rule whose items are read, or in what is between these.
use Rattle.std.specs.Prelude.{◌≡◌, ℕ, ◌+◌, ◌-◌, ◌<◌, Bool, true, false, List, [], ◌∷◌, ◌++◌, length, ◌⊎◌}
use Rattle.css_text.specs.AsciiBytes.{open_brace, close_brace, at_sign}
use Rattle.css_text.specs.Reading.{Ends}
use Rattle.css_syntax.specs.Tokens.{past_gap}
use Rattle.css_syntax.specs.Statements.{past_between}
use Rattle.css_sheet.specs.Places.{PlacesText}
use Rattle.css_sheet.specs.SheetItems.{ConditionText, SheetItemText, GroupText, is_group_name, condition_of}

-- Before the rest are only space bytes and comments.
abbrev pub BlankTo : (text rest : List ℕ) → Type 0
BlankTo text rest = (past_gap text ≡ rest) × Ends text rest

-- Before the rest are only space bytes, comments and, in no block, `<!--` and `-->`.
abbrev pub BetweenTo : Bool → (text rest : List ℕ) → Type 0
BetweenTo in_block text rest = (past_between in_block text ≡ rest) × Ends text rest

-- A block ends here: at its brace, which the rest follows, or with the text.
abbrev pub EndsBlock : (text rest : List ℕ) → Type 0
EndsBlock text rest = (text ≡ close_brace ∷ rest) ⊎ ((text ≡ []) × (rest ≡ []))

-- A group rule is the text from its start up to the rest: `@`, its name, its prelude, a brace, its
-- contents, and what ends it. Between these are only blanks. `inside` is the text from its contents on.
pub record IsGroupRule (group : GroupText) (start inside rest : List ℕ) : Type 0 where
  -- what is left after each
  pub after_name : List ℕ
  pub after_prelude : List ℕ
  pub after_brace : List ℕ
  pub after_contents : List ℕ
  pub from_end : List ℕ
  pub is_group : is_group_name group.name ≡ true
  pub name_first : start ≡ at_sign ∷ (group.name ++ after_name)
  pub prelude_next : BlankTo after_name (group.prelude ++ after_prelude)
  pub brace_next : BlankTo after_prelude (open_brace ∷ after_brace)
  pub inside_next : BlankTo after_brace inside
  pub contents_next : inside ≡ group.text ++ after_contents
  pub end_next : BlankTo after_contents from_end
  pub ends : EndsBlock from_end rest

-- These are the items of a text, one after another, up to its end. It ends at this offset of a sheet, and
-- is in these group rules. Each byte of it is in one item, in the head or the end of one group rule, or
-- between these.
pub data AreItemsOf : (in_block : Bool) → List ConditionText → (end : ℕ) → (text : List ℕ)
    → List SheetItemText → Type 0 where
  -- no item is left
  no_item : (in_block : Bool) (conditions : List ConditionText) (end : ℕ) (text : List ℕ)
      → BetweenTo in_block text [] → AreItemsOf in_block conditions end text []
  -- an item with all of its text, a byte or more: a rule set, an at-rule, or what is skipped, with the
  -- reason
  item_then : (in_block : Bool) (conditions : List ConditionText) (end : ℕ) (text rest : List ℕ)
      (item : SheetItemText) (more : List SheetItemText)
      → 0 < length item.part.text
      → BetweenTo in_block text (item.part.text ++ rest)
      → item.conditions ≡ conditions
      → item.places.start ≡ end - length (item.part.text ++ rest)
      → AreItemsOf in_block conditions end rest more
      → AreItemsOf in_block conditions end text (item ∷ more)
  -- a group rule, of which the contents have items of their own
  group_then : (in_block : Bool) (conditions : List ConditionText) (end : ℕ)
      (text start inside rest : List ℕ) (group : GroupText) (places : PlacesText)
      (items more : List SheetItemText)
      → BetweenTo in_block text start
      → IsGroupRule group start inside rest
      → places.start ≡ end - length start
      → places.block ≡ end - length inside
      → AreItemsOf true (conditions ++ condition_of group places (end - length rest) ∷ [])
      (places.block + length group.text) group.text items
      → AreItemsOf in_block conditions end rest more
      → AreItemsOf in_block conditions end text (items ++ more)

-- the items of a sheet
abbrev pub AreSheetItems : (text : List ℕ) → List SheetItemText → Type 0
AreSheetItems text items = AreItemsOf false [] (length text) text items
