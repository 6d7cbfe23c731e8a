use Rattle.std.proofs.Common.{◌≡◌, ◌+◌, ℕ, List, Bool, length, map}
use Rattle.css_selector_text.specs.NameViews.{names_of}
use Rattle.css_sheet.specs.Namespaces.{sheet_names}
use Rattle.css_sheet.specs.SheetRuleViews.{Answers, sheet_of}
use Rattle.css_sheet.specs.internal.OpenViews.{known_in, AreFew}
use Rattle.css_sheet.specs.internal.GatherViews.{Awaits}
use Rattle.css_sheet.proofs.GatherLemmas.{sheets_left}
use Rattle.css_sheet.proofs.sheet_order.gather.Given as goal

-- So many sheets were read; and those that are left give what is left of rules and layers, and declare these
-- names.
abbrev pub invariant-sheets : goal.invariant-sheets
invariant-sheets g l = record {
  counted : l.number + length l.rest ≡ length l.sheets;
  awaits : (answers : List ℕ → List ℕ → Bool) → Answers (goal.C-post g l.holds) answers
      → Awaits answers (map sheet_of l.sheets) l.most l.read (sheets_left answers l.number l.rest);
  few : AreFew (known_in l.read.opened);
  named : map names_of l.declared ≡ map (λ sheet. sheet_names (sheet_of sheet)) l.rest;
}

abbrev pub decreases-sheets : goal.decreases-sheets
decreases-sheets g l = length l.rest
