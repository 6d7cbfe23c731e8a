use Rattle.std.proofs.Common.{ℕ, ◌<◌}
use Rattle.css_index.specs.Found.{MatchesAt}
use Rattle.css_tree.specs.Pages.{page_document}
use Rattle.page_calls.proofs.modern.ranges.is_matched.Given as goal

-- none of the selectors so far matches
abbrev pub invariant-loop-selector : goal.invariant-loop-selector
invariant-loop-selector l =
    (index : ℕ) → index < l.selector-index → ¬ MatchesAt page_document l.node l.selectors index
