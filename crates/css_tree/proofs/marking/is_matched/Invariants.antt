-- No selector so far matches.
use Rattle.std.proofs.Common.{◌<◌, ℕ, get_or}
use Rattle.css_selector_text.specs.Components.{Selector}
use Rattle.css_selectors.specs.Meanings.{Matches}
use Rattle.css_tree.specs.Pages.{page_document}
use Rattle.css_tree.proofs.marking.is_matched.Given as goal

abbrev pub invariant-loop-selector : goal.invariant-loop-selector
invariant-loop-selector l =
    (k : ℕ) (s : Selector) → k < l.selector-index
    → Matches page_document (get_or l.list k s) l.node → ⊥
