use Rattle.std.proofs.Common.{◌≡◌, ◌++◌, map}
use Rattle.std.specs.Vec.Iter.{into_iter_items}
use Rattle.css_selector_text.specs.reading.ReadViews.{placed_of}
use Rattle.call_answers.specs.SelectorNumbers.{selector_numbers}
use Rattle.call_answers.proofs.selector_numbers.selector_numbers.Given as goal

-- the numbers of the selectors so far, and of those that are left
abbrev pub invariant-selectors : goal.invariant-selectors
invariant-selectors l =
    l.out.items ++ selector_numbers l.end (map placed_of (into_iter_items l.listed-iterator))
    ≡ selector_numbers l.end (map placed_of l.fn.all.items)
