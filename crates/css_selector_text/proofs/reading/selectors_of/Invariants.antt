use Rattle.std.proofs.Common.{◌≡◌, ◌++◌, map}
use Rattle.std.specs.Vec.Iter.{into_iter_items}
use Rattle.css_selector_text.specs.reading.ReadViews.{placed_of}
use Rattle.css_selector_text.proofs.reading.selectors_of.Given as goal

-- the selectors so far, and those of what is left
abbrev pub invariant-selectors : goal.invariant-selectors
invariant-selectors l =
    l.selectors.items ++ map (λ p. p.selector) (map placed_of (into_iter_items l.listed-iterator))
    ≡ map (λ p. p.selector) (map placed_of l.fn.list.items)
