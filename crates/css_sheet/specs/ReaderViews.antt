-- What contracts see of a reader of sheets, and what is still to come.
use Rattle.std.specs.Prelude.{◌≡◌, ℕ, zero, suc, ◌<◌, ◌+◌, ◌-◌, Bool, true, false, List, [], ◌∷◌, ◌++◌, length, map, Option, Some, None}
use Rattle.css_syntax.specs.declared.statements.SheetPart.{SheetPart}
use Rattle.css_syntax.specs.Views.{sheet_part_of}
use Rattle.css_sheet.specs.declared.state.Level.{Level}
use Rattle.css_sheet.specs.Places.{PlacesText, places_of}
use Rattle.css_sheet.specs.declared.state.SheetReader.{SheetReader}
use Rattle.css_sheet.specs.declared.reader.Step.{Step}
use Rattle.css_sheet.specs.declared.reader.Step.TheVariants as steps
use Rattle.css_sheet.specs.SheetItems.{ConditionText, SheetItemText, items_in, deepest_group}

-- A group rule that is open, and the text after it with the offset at which that ends.
pub record LevelText : Type 0 where
  pub condition : ConditionText
  pub after : List ℕ
  pub after_end : ℕ

abbrev pub level_of : Level → LevelText
level_of l = record {
  condition = record {
    name = l.name.now;
    prelude = l.prelude.now;
    places = places_of l.places;
    end = l.after_end - length l.after.now;
  };
  after = l.after.now;
  after_end = l.after_end;
}

-- the group rules that are open, from the outermost
abbrev pub levels_of : SheetReader → List LevelText
levels_of r = map level_of r.levels.items

abbrev pub condition_at : LevelText → ConditionText
condition_at l = l.condition

-- the conditions of what was read last
abbrev pub conditions_of : SheetReader → List ConditionText
conditions_of r = map condition_at (levels_of r)

-- What is to come where these group rules are open in those, `n` further ones may be nested, and
-- this text, which ends at this offset, is left of the innermost: its items, and then those after
-- each group rule.
abbrev pub still : List LevelText → ℕ → Bool → List ConditionText → (end : ℕ) → List ℕ
    → List SheetItemText
still [] n in_block conditions end text = items_in n in_block conditions end text
still (l ∷ more) zero in_block conditions end text = []
still (l ∷ more) (suc n) in_block conditions end text =
    still more n true (conditions ++ l.condition ∷ []) end text
    ++ items_in (suc n) in_block conditions l.after_end l.after

-- the text that is left of the innermost
abbrev pub left_of : SheetReader → List ℕ
left_of r = r.rest.now

abbrev pub is_some_open : List LevelText → Bool
is_some_open [] = false
is_some_open (l ∷ more) = true

-- whether a group rule is open
abbrev pub is_inside : SheetReader → Bool
is_inside r = is_some_open (levels_of r)

-- the offset at which it ends
abbrev pub end_of : SheetReader → ℕ
end_of r = r.end

-- where the item is that was read last
abbrev pub places_now : SheetReader → PlacesText
places_now r = places_of r.places

-- the items that are still to come
abbrev pub to_come : SheetReader → List SheetItemText
to_come r = still (levels_of r) deepest_group false [] (end_of r) (left_of r)

-- the item that was read last
abbrev pub item_of : SheetReader → SheetPart → SheetItemText
item_of r part = record {
  conditions = conditions_of r;
  part = sheet_part_of part;
  places = places_now r;
}

-- A call returned the first of the items that were to come, and the others still are; or none was
-- to come, and none is.
abbrev pub GivesItem : SheetReader → Option SheetPart → SheetReader → Type 0
GivesItem before None after = (to_come before ≡ []) × (to_come after ≡ [])
GivesItem before (Some part) after = to_come before ≡ item_of after part ∷ to_come after

-- how much is left: what decreases with each step
abbrev pub size_after : List LevelText → ℕ
size_after [] = 0
size_after (l ∷ more) = suc (length l.after) + size_after more

abbrev pub size_of : SheetReader → ℕ
size_of r = size_after (levels_of r) + length (left_of r)

-- The innermost group rule was left, and what is after it is left of the innermost text.
pub record LeavesOne (before after : SheetReader) : Type 0 where
  pub level : LevelText
  pub levels : levels_of before ≡ levels_of after ++ level ∷ []
  pub text : left_of after ≡ level.after
  pub ends : end_of after ≡ level.after_end

-- A call left the innermost group rule, or none was open, and then nothing changed.
abbrev pub Leaves : SheetReader → Step → SheetReader → Type 0
Leaves before (steps.Found part) after = ⊥
Leaves before (steps.Entered level) after = ⊥
Leaves before steps.Left after = LeavesOne before after
Leaves before steps.Ended after =
    (levels_of before ≡ []) × (levels_of after ≡ []) × (left_of after ≡ left_of before)
    × (end_of after ≡ end_of before)

-- A step read the first of the items that were to come; or it entered a group rule or left one, and
-- the same are to come; or it ended, and none is.
abbrev pub Steps : SheetReader → Step → SheetReader → Type 0
Steps before (steps.Found part) after =
    (to_come before ≡ item_of after part ∷ to_come after) × (levels_of after ≡ levels_of before)
    × (size_of after < size_of before)
Steps before (steps.Entered level) after =
    (to_come after ≡ to_come before) × (levels_of after ≡ levels_of before ++ level_of level ∷ [])
    × (size_of after < size_of before)
Steps before steps.Left after =
    (to_come after ≡ to_come before) × LeavesOne before after × (size_of after < size_of before)
Steps before steps.Ended after = (to_come before ≡ []) × (to_come after ≡ [])

-- the same of several steps, of which all but the last entered group rules or left them
abbrev pub Since : SheetReader → Step → SheetReader → Type 0
Since before (steps.Found part) after = to_come before ≡ item_of after part ∷ to_come after
Since before (steps.Entered level) after = to_come after ≡ to_come before
Since before steps.Left after = to_come after ≡ to_come before
Since before steps.Ended after = (to_come before ≡ []) × (to_come after ≡ [])

-- more than the number of steps that are left after this one
abbrev pub moves_left : Step → SheetReader → ℕ
moves_left (steps.Found part) r = 0
moves_left (steps.Entered level) r = suc (size_of r)
moves_left steps.Left r = suc (size_of r)
moves_left steps.Ended r = 0
