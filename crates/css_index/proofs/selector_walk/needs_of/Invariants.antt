use Rattle.std.proofs.Common.{map, take}
use Rattle.css_index.specs.Walks.{AreNumbered, AreNeeds}
use Rattle.css_index.specs.internal.Walking.{need_of}
use Rattle.css_index.proofs.selector_walk.needs_of.Given as goal

-- the needs of the first selectors
abbrev pub invariant-loop-selector : goal.invariant-loop-selector
invariant-loop-selector l = record {
  numbered : AreNumbered l.needed;
  needs : AreNeeds l.needed (map (λ s. s.now) (take l.selector-index l.selectors))
      (map need_of l.needs.items);
}
