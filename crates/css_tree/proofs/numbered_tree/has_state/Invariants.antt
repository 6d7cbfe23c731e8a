use Rattle.std.proofs.Common.{◌≡◌, length, map}
use Rattle.css_tree.specs.PageViews.{state_of}
use Rattle.css_tree.specs.Pages.{is_among}
use Rattle.css_tree.proofs.numbered_tree.has_state.Given as goal

-- none of the states so far has this name and this element
abbrev pub invariant-states : goal.invariant-states
invariant-states l =
    is_among (map state_of l.rest) l.index l.name
    ≡ is_among (map state_of l.states) l.index l.name

abbrev pub decreases-states : goal.decreases-states
decreases-states l = length l.rest
