use Rattle.std.proofs.Common.{◌≡◌, ◌≤◌, length}
use denote.Shadow.{shadow}
use denote.Text.{Utf8}
use Rattle.css_sheet.specs.Imports.{sheet_imports}
use Rattle.css_sheet.specs.internal.FrontViews.{all_with}
use Rattle.css_sheet.proofs.FrontLemmas.{rules_in}
use Rattle.css_sheet.proofs.imports.read_imports.Given as goal

-- The imports so far, and those of the rest, are all.
abbrev pub invariant-statements : goal.invariant-statements
invariant-statements l = record {
  utf8 : shadow (Utf8 l.rest);
  within : length l.rest ≤ length l.text;
  all : all_with l.imports.items (rules_in (length l.text) l.rest) ≡ sheet_imports l.text;
}

abbrev pub decreases-statements : goal.decreases-statements
decreases-statements l = length l.rest
