use Rattle.std.proofs.Common.{◌≡◌, ◌++◌, ℕ, List, Bool}
use Rattle.css_sheet.specs.internal.OpenViews.{known_in, AreFew}
use Rattle.css_sheet.specs.internal.PartViews.{left_count}
use Rattle.css_sheet.specs.SheetLayers.{with_layers}
use Rattle.css_cascade.specs.Layers.{outermost_number}
use Rattle.css_sheet.specs.Sheets.{SheetText, outermost_at}
use Rattle.css_sheet.specs.SheetParts.{PlacedPart, sheet_parts}
use Rattle.css_sheet.specs.SheetRuleViews.{Answers, sheet_of}
use Rattle.css_sheet.specs.internal.GatherViews.{Awaits}
use Rattle.css_sheet.proofs.GatherLemmas.{Reads}
use Rattle.css_sheet.proofs.sheet_order.ReadRules.push_sheet.Given as goal

-- The parts that are to come give what is left of rules and layers.
abbrev pub invariant-parts : goal.invariant-parts
invariant-parts g l = record {
  reads : (answers : List ℕ → List ℕ → Bool) → Answers (goal.C-post g l.holds) answers
      → (sheets : List SheetText) (most : ℕ) (more : List PlacedPart)
      → outermost_number l.fn.origin ≡ outermost_at sheets l.number
      → Awaits answers sheets most l.fn.self
      (sheet_parts (with_layers answers) l.number (sheet_of l.sheet) ++ more)
      → Reads answers sheets most l.self l.reader more;
  few : AreFew (known_in l.fn.self.opened) → AreFew (known_in l.self.opened);
}

abbrev pub decreases-parts : goal.decreases-parts
decreases-parts g l = left_count l.reader
