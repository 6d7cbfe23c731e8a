use Rattle.std.proofs.Common.{◌≡◌, map}
use Rattle.std.specs.Vec.Iter.{into_iter_items}
use Rattle.css_selectors.specs.Numberings.{no_lists, with_each_list}
use Rattle.css_selectors.proofs.numbering.Numbering.of_lists.Given as goal

-- those that are left are appended to those so far
abbrev pub invariant-lists : goal.invariant-lists
invariant-lists l =
    with_each_list l.numbering (map (λ list. list.items) (into_iter_items l.list-iterator))
    ≡ with_each_list no_lists (map (λ list. list.items) l.fn.lists.items)
