use Rattle.std.proofs.Common.{◌≡◌, ◌++◌, length, map}
use Rattle.css_sheet.specs.ImportViews.{import_of}
use Rattle.css_lint.specs.Keys.{keyed_of}
use Rattle.css_lint.specs.Repeats.{keyed_import}
use Rattle.css_lint.proofs.repeats.repeated_imports.Given as goal

-- the imports so far, and the rest
abbrev pub invariant-imports : goal.invariant-imports
invariant-imports l =
    map keyed_of l.all.items ++ map keyed_import (map import_of l.left)
    ≡ map keyed_import (map import_of l.imports)

abbrev pub decreases-imports : goal.decreases-imports
decreases-imports l = length l.left
