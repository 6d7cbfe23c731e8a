use Rattle.std.proofs.Common.{◌≡◌, length, map}
use Rattle.css_selector_text.specs.reading.ReadViews.{placed_of}
use Rattle.css_selector_text.specs.reading.Supported.{first_unsupported}
use Rattle.css_selector_text.proofs.reading.first_unsupported.Given as goal

-- the answer is that for what is left
abbrev pub invariant-selectors : goal.invariant-selectors
invariant-selectors l =
    first_unsupported (map placed_of l.rest) ≡ first_unsupported (map placed_of l.list)

abbrev pub decreases-selectors : goal.decreases-selectors
decreases-selectors l = length l.rest
