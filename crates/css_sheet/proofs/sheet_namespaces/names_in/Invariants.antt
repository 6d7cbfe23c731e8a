use Rattle.std.proofs.Common.{◌≡◌, ◌++◌, length, map}
use Rattle.css_selector_text.specs.NameViews.{names_of}
use Rattle.css_sheet.specs.NamespaceViews.{names_declared}
use Rattle.css_sheet.proofs.sheet_namespaces.names_in.Given as goal

-- those so far, and those that are left
abbrev pub invariant-sheets : goal.invariant-sheets
invariant-sheets l =
    map names_of l.names.items ++ map names_declared l.rest ≡ map names_declared l.declared

abbrev pub decreases-sheets : goal.decreases-sheets
decreases-sheets l = length l.rest
