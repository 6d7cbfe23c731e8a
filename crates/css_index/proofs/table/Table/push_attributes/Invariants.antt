use Rattle.std.proofs.Common.{map, take}
use Rattle.css_selectors.specs.Keys.Key.{by_attribute}
use Rattle.css_index.specs.internal.Added.{AreAdded}
use Rattle.css_index.specs.internal.Filed.{found_by_any}
use Rattle.css_index.proofs.table.Table.push_attributes.Given as goal

-- of what was found by the attributes so far what is kept was added
abbrev pub invariant-loop-index : goal.invariant-loop-index
invariant-loop-index g l =
    AreAdded (g.K.Keeping.Keeps l.kept) l.initial.indices.items (found_by_any l.self
    (map by_attribute (take l.index (g.E.Keyed.reported l.element).attributes))) l.indices.items
