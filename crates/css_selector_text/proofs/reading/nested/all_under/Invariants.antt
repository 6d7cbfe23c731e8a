use Rattle.std.proofs.Common.{◌≡◌, ◌++◌, map}
use Rattle.std.specs.Vec.Iter.{into_iter_items}
use Rattle.css_selector_text.specs.reading.Nested.{nested}
use Rattle.css_selector_text.specs.NameViews.{names_of}
use Rattle.css_selector_text.specs.reading.ReadViews.{placed_of}
use Rattle.css_selector_text.proofs.reading.nested.all_under.Given as goal

-- those so far, and what is made of those that are left
abbrev pub invariant-selectors : goal.invariant-selectors
invariant-selectors l =
    map placed_of l.under.items
    ++ map (nested (names_of l.names) l.list) (map placed_of (into_iter_items l.listed-iterator))
    ≡ map (nested (names_of l.names) l.list) (map placed_of l.fn.all.items)
