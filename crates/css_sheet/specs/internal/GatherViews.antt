-- What contracts of private functions see of rules that are gathered.
use Rattle.std.specs.Prelude.{◌≡◌, ℕ, ◌+◌, ◌<◌, Bool, not, List, ◌++◌, Result, Ok, Err}
use Rattle.css_sheet.specs.declared.parts.SheetParts.{SheetParts}
use Rattle.css_sheet.specs.declared.sheet_error.SheetError.{SheetError}
use Rattle.css_sheet.specs.declared.sheet_error.SheetError.TheVariants.{TooManyDeclarations}
use Rattle.css_sheet.specs.declared.sheet_order.ReadRules.{ReadRules}
use Rattle.css_sheet.specs.internal.PartViews.{open_in, placed_last}
use Rattle.css_sheet.specs.SheetParts.{SheetPart, PlacedPart}
use Rattle.css_sheet.specs.SheetLayers.{sheet_layers, with_parts}
use Rattle.css_sheet.specs.Sheets.{SheetText, outermost_at}
use Rattle.css_sheet.specs.SheetOrder.{SheetRuleText, declarations_in, part_rules, nested_lists, numbered_rules, rules_of_parts}
use Rattle.css_sheet.specs.SheetRuleViews.{gathered_rules}
use Rattle.css_sheet.specs.OpenParents.{after_part, after_parts}
use Rattle.css_sheet.specs.ParentViews.{parent_of, parents_of}
use Rattle.css_sheet.specs.internal.OpenViews.{known_in, numbers_in, outermost_in, innermost_of, is_known_dropped, Goes}

-- the rules of a part that was read, in the layer that is innermost
abbrev pub rules_now : ReadRules → SheetPart → SheetParts → List SheetRuleText
rules_now read part reader =
    part_rules (innermost_of (outermost_in read.opened) (numbers_in read.opened)) (parent_of read.parents.innermost)
    (placed_last reader part)

-- whether layers in style rules count after a part that was read, as far as it is known
abbrev pub counts_after : ReadRules → SheetPart → SheetParts → Bool
counts_after before part reader =
    not (is_known_dropped (after_part (parents_of before.parents) (placed_last reader part)).innermost)

abbrev pub GoesOn : ReadRules → ReadRules → SheetPart → SheetParts → Type 0
GoesOn before after part reader =
    Goes (outermost_in before.opened) (known_in before.opened) (numbers_in before.opened)
    (counts_after before part reader) part (open_in reader) (known_in after.opened) (numbers_in after.opened)
    × (outermost_in after.opened ≡ outermost_in before.opened)

abbrev pub NestsOn : ReadRules → ReadRules → SheetPart → SheetParts → Type 0
NestsOn before after part reader =
    parents_of after.parents ≡ after_part (parents_of before.parents) (placed_last reader part)

-- Layers and rules of a part were added; or the rules are beyond the limit.
abbrev pub Pushes : ReadRules → Result (Unit {0}) SheetError → ReadRules → SheetPart → SheetParts → Type 0
Pushes before (Ok done) after part reader =
    GoesOn before after part reader × NestsOn before after part reader
    × (gathered_rules after.gathered ≡ gathered_rules before.gathered ++ rules_now after part reader)
    × (after.gathered.left + declarations_in (rules_now after part reader) ≡ before.gathered.left)
Pushes before (Err error) after part reader =
    error ≡ TooManyDeclarations
    → GoesOn before after part reader × NestsOn before after part reader
    × (before.gathered.left < declarations_in (rules_now after part reader))

-- These parts that are to come give the layers and the rules of the sheets that are not gathered yet.
pub record Awaits (holds : List ℕ → List ℕ → Bool) (sheets : List SheetText) (most : ℕ)
    (read : ReadRules) (more : List PlacedPart) : Type 0 where
  pub layers : with_parts (outermost_at sheets) (known_in read.opened) (parents_of read.parents) more
      ≡ sheet_layers holds sheets
  pub rules : gathered_rules read.gathered
      ++ rules_of_parts (outermost_at sheets) (sheet_layers holds sheets) (parents_of read.parents) more
      ≡ numbered_rules holds sheets
  pub lists : (after_parts (parents_of read.parents) more).lists
      ≡ nested_lists holds sheets
  pub room : most
      + declarations_in (rules_of_parts (outermost_at sheets) (sheet_layers holds sheets)
      (parents_of read.parents) more)
      ≡ read.gathered.left + declarations_in (numbered_rules holds sheets)

-- So it is after a sheet; or the rules are beyond the limit.
abbrev pub AwaitsStill : (List ℕ → List ℕ → Bool) → List SheetText → ℕ
    → Result (Unit {0}) SheetError → ReadRules → List PlacedPart → Type 0
AwaitsStill holds sheets most (Ok done) read more = Awaits holds sheets most read more
AwaitsStill holds sheets most (Err error) read more =
    error ≡ TooManyDeclarations → most < declarations_in (numbered_rules holds sheets)

-- All rules and layers of sheets were gathered, and the rules are within the limit; or they are beyond
-- it.
abbrev pub GathersAll : ℕ → Result ReadRules SheetError → (List ℕ → List ℕ → Bool)
    → List SheetText → Type 0
GathersAll most (Ok read) holds sheets =
    (known_in read.opened ≡ sheet_layers holds sheets)
    × (gathered_rules read.gathered ≡ numbered_rules holds sheets)
    × ((parents_of read.parents).lists ≡ nested_lists holds sheets)
    × (read.gathered.left + declarations_in (numbered_rules holds sheets) ≡ most)
GathersAll most (Err error) holds sheets =
    error ≡ TooManyDeclarations → most < declarations_in (numbered_rules holds sheets)
