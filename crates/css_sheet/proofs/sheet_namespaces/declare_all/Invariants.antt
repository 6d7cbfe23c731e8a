use Rattle.std.proofs.Common.{◌≡◌, ◌++◌, length, map}
use Rattle.css_sheet.specs.NamespaceViews.{names_declared, names_owned}
use Rattle.css_sheet.proofs.sheet_namespaces.declare_all.Given as goal

-- those so far, and those that are left
abbrev pub invariant-sheets : goal.invariant-sheets
invariant-sheets l =
    map names_declared l.declared.items ++ map names_owned l.rest ≡ map names_owned l.read

abbrev pub decreases-sheets : goal.decreases-sheets
decreases-sheets l = length l.rest
