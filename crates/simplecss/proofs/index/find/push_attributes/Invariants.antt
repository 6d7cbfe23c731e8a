use Rattle.simplecss.specs.SelectorIndices.{Adds}
use Rattle.simplecss.proofs.ReadIndices.{OfRead}
use Rattle.simplecss.proofs.index.find.push_attributes.Given as goal

-- the indices of the names so far that the element has were added
abbrev pub invariant-loop-name : goal.invariant-loop-name
invariant-loop-name g l =
    Adds l.initial.indices.items l.indices.items
    (OfRead (g.E.Keyed.reported l.element).has_attribute l.yielded)
