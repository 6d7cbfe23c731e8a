use Rattle.std.proofs.Common.{◌≡◌, ◌++◌, map}
use Rattle.std.specs.Vec.Iter.{into_iter_items}
use Rattle.css_selector_text.specs.Originating.{part_or_any}
use Rattle.css_selector_text.specs.Views.{part_of}
use Rattle.css_selector_text.proofs.originating.parts_or_any.Given as goal

-- those so far, and those that are left
abbrev pub invariant-parts : goal.invariant-parts
invariant-parts l =
    map part_of l.any.items ++ map part_or_any (map part_of (into_iter_items l.part-iterator))
    ≡ map part_or_any (map part_of l.fn.parts.items)
