use Rattle.std.proofs.Common.{◌≡◌, ℕ, ◌||◌, length, map}
use Rattle.std.specs.BTreeSet.{contains}
use Rattle.std.specs.Ordering.{nat_cmp}
use Rattle.css_sheet.specs.ImportViews.{import_of}
use Rattle.css_lint.specs.Late.{is_in_force}
use Rattle.css_lint.proofs.late.starts_of.Given as goal

-- the set has where the imports so far begin
abbrev pub invariant-imports : goal.invariant-imports
invariant-imports l = (start : ℕ)
    → (contains nat_cmp l.starts start || is_in_force (map import_of l.left) start)
    ≡ is_in_force (map import_of l.imports) start

abbrev pub decreases-imports : goal.decreases-imports
decreases-imports l = length l.left
