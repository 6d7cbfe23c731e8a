use Rattle.std.proofs.Common.{◌≡◌, length, map}
use Rattle.css_selectors.specs.AfterKeys.{have_no_greater}
use Rattle.css_selector_text.specs.Views.{condition_of}
use Rattle.css_selectors.proofs.after_key.has_no_greater.Given as goal

-- the answer is that for what is left
abbrev pub invariant-conditions : goal.invariant-conditions
invariant-conditions l =
    have_no_greater l.rank (map condition_of l.rest)
    ≡ have_no_greater l.rank (map condition_of l.conditions)

abbrev pub decreases-conditions : goal.decreases-conditions
decreases-conditions l = length l.rest
