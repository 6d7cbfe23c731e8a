use Rattle.std.proofs.Common.{◌≡◌, ◌++◌, length}
use Rattle.css_text.specs.ThisEdition.{this_edition}
use Rattle.css_text.specs.Cursor.{rest_of}
use Rattle.simplecss.specs.Hints.{block_hints}
use Rattle.simplecss.specs.HintViews.{hints_of}
use Rattle.simplecss.proofs.hints.values.push_values.Given as goal

-- The hints so far and those from here on are all.
abbrev pub invariant-list : goal.invariant-list
invariant-list l =
    hints_of l.hints.items ++ block_hints this_edition (rest_of l.s)
    ≡ hints_of l.initial.hints.items ++ block_hints this_edition (rest_of l.initial.s)

abbrev pub decreases-list : goal.decreases-list
decreases-list l = length (rest_of l.s)
