-- When two answers to which group rules hold say the same of sheets.
use Rattle.std.specs.Prelude.{◌≡◌, ◌-◌, ℕ, Bool, false, true, List, length, take}
use Rattle.std.specs.List.{All}
use Rattle.css_sheet.specs.SheetItems.{is_layer}
use Rattle.css_sheet.specs.SheetLayers.{layered_parts}
use Rattle.css_sheet.specs.SheetParts.{OpenText, PlacedPart, RuleKind, SheetPart, applies_in, begins, ends, group_rule, stands, states, style_rule}
use Rattle.css_sheet.specs.Sheets.{SheetText}

-- the rules that a part of a sheet begins in, where these are open once it has begun
abbrev pub outer : List OpenText → List OpenText
outer around = take (length around - 1) around

-- it is so of the keyword and the prelude of the rule, if that is a group rule other than `@layer`
abbrev pub OfCondition : (IsSo : (keyword prelude : List ℕ) → Type 0) → RuleKind → Type 0
OfCondition IsSo (style_rule prelude) = Unit {0}
OfCondition IsSo (group_rule keyword prelude) = is_layer keyword ≡ false → IsSo keyword prelude

-- the same of the rule that a part begins, if what that is in applies
abbrev pub OfPart : (IsSo : (keyword prelude : List ℕ) → Type 0) → SheetPart → List OpenText → Type 0
OfPart IsSo (states text) around = Unit {0}
OfPart IsSo (begins kind) around = applies_in (outer around) ≡ true → OfCondition IsSo kind
OfPart IsSo ends around = Unit {0}
OfPart IsSo (stands item) around = Unit {0}

-- It is so of each group rule of the sheets that is in no group rule that does not hold, where one holds as `holds`
-- says. `@layer` is not asked.
abbrev pub OfConditions : (IsSo : (keyword prelude : List ℕ) → Type 0) → (holds : List ℕ → List ℕ → Bool)
    → List SheetText → Type 0
OfConditions IsSo holds sheets =
    All (λ (placed : PlacedPart). OfPart IsSo placed.part placed.around) (layered_parts holds sheets)
