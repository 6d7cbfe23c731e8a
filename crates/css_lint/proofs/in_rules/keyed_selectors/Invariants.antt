use Rattle.std.proofs.Common.{◌≡◌, ◌++◌, length, map}
use Rattle.css_selector_text.specs.reading.ReadViews.{placed_of}
use Rattle.css_lint.specs.InRules.{keyed_selector}
use Rattle.css_lint.specs.Keys.{keyed_of}
use Rattle.css_lint.proofs.in_rules.keyed_selectors.Given as goal

-- the selectors so far, and the rest
abbrev pub invariant-selectors : goal.invariant-selectors
invariant-selectors l =
    map keyed_of l.all.items ++ map (keyed_selector l.end) (map placed_of l.left)
    ≡ map (keyed_selector l.end) (map placed_of l.selectors)

abbrev pub decreases-selectors : goal.decreases-selectors
decreases-selectors l = length l.left
