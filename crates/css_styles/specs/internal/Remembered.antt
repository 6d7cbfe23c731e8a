-- What is remembered of winners for later elements that the same rules match.
use Rattle.std.specs.Prelude.{◌≡◌, List, [], map, Option, None, Some}
use Rattle.css_sheet.specs.SheetOrder.{SheetRuleText}
use Rattle.css_styles.specs.declared.finder.Slot.{Slot}
use Rattle.css_styles.specs.Contenders.{OwnText}
use Rattle.css_styles.specs.StyleViews.{winner_of}
use Rattle.css_styles.specs.Winners.{winners}

-- the element has no declarations of its own
abbrev pub no_own : OwnText
no_own = record { style = []; presentation = [] }

-- A slot is empty, or what it has found wins on an element that the rules at its indices match, and that has no
-- declarations of its own.
abbrev pub IsSlotOf : List SheetRuleText → Option Slot → Type 0
IsSlotOf rules None = Unit {0}
IsSlotOf rules (Some slot) = map winner_of slot.found.items ≡ winners rules slot.indices.items no_own
