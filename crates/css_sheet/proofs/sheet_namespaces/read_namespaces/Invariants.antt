use Rattle.std.proofs.Common.{◌≡◌, ◌++◌, length, map}
use Rattle.css_sheet.specs.Namespaces.{sheet_names}
use Rattle.css_sheet.specs.NamespaceViews.{names_owned}
use Rattle.css_sheet.specs.SheetRuleViews.{sheet_of}
use Rattle.css_sheet.proofs.sheet_namespaces.read_namespaces.Given as goal

-- those so far, and those that are left
abbrev pub invariant-sheets : goal.invariant-sheets
invariant-sheets l =
    map names_owned l.read.items ++ map (λ sheet. sheet_names (sheet_of sheet)) l.rest
    ≡ map (λ sheet. sheet_names (sheet_of sheet)) l.sheets

abbrev pub decreases-sheets : goal.decreases-sheets
decreases-sheets l = length l.rest
