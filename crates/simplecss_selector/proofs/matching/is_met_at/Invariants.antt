use Rattle.std.proofs.Common.{◌↔◌, drop, map, All}
use Rattle.simplecss_selector.specs.Placements.{Meets, Holds}
use Rattle.simplecss_selector.specs.Shapes.{component_at}
use Rattle.simplecss_selector.specs.internal.SelectorViews.{subselector_of}
use Rattle.simplecss_selector.proofs.matching.is_met_at.Given as goal

-- the component is met exactly if what is left of its subselectors holds
abbrev pub invariant-loop-subselector : goal.invariant-loop-subselector
invariant-loop-subselector g l =
    Meets g.E.Element.tree (g.E.Element.node l.element) (component_at l.selector l.index).compound
    ↔ All (Holds g.E.Element.tree (g.E.Element.node l.element))
    (map subselector_of (drop l.subselector-index l.subselectors))
