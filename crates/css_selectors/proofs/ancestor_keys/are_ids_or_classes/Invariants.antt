use Rattle.std.proofs.Common.{◌≡◌, length, map}
use Rattle.css_selectors.specs.AncestorKeys.{are_exact}
use Rattle.css_selector_text.specs.Components.{selectors_from}
use Rattle.css_selector_text.specs.Views.{complex_of}
use Rattle.css_selectors.proofs.ancestor_keys.are_ids_or_classes.Given as goal

-- the answer is that for what is left
abbrev pub invariant-selectors : goal.invariant-selectors
invariant-selectors l =
    are_exact (selectors_from (map complex_of l.rest))
    ≡ are_exact (selectors_from (map complex_of l.selectors))

abbrev pub decreases-selectors : goal.decreases-selectors
decreases-selectors l = length l.rest
