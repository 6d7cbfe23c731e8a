use Rattle.std.proofs.Common.{◌≡◌, length, map}
use Rattle.css_selector_text.specs.reading.ReadViews.{placed_of}
use Rattle.css_selector_text.specs.reading.Supported.{first_unsupported}
use Rattle.kept_lists.proofs.read_list.are_supported.Given as goal

-- those so far are supported
abbrev pub invariant-selectors : goal.invariant-selectors
invariant-selectors l =
    first_unsupported (map placed_of l.left) ≡ first_unsupported (map placed_of l.all)

abbrev pub decreases-selectors : goal.decreases-selectors
decreases-selectors l = length l.left
