use Rattle.std.proofs.Common.{◌≡◌, ◌++◌}
use Rattle.std.specs.Vec.Iter.{into_iter_items}
use Rattle.css_selectors.specs.Numberings.{numbered_selectors}
use Rattle.css_selectors.proofs.numbering.Numbering.number_all.Given as goal

-- those so far, and what is made of those that are left
abbrev pub invariant-selectors : goal.invariant-selectors
invariant-selectors l =
    let left = numbered_selectors l.self (into_iter_items l.selector-iterator) in
    (l.numbered.items ++ left.0, left.1) ≡ numbered_selectors l.fn.self l.fn.selectors.items
