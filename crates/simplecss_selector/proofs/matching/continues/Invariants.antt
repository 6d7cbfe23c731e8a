use Rattle.std.proofs.Common.{◌≡◌, ◌+◌, ◌*◌, ◌<◌, ◌≤◌, ◌↔◌, ◌∷◌, length, get_or}
use Rattle.simplecss_selector.specs.Placements.{HasPlacement, longest_stretch}
use Rattle.simplecss_selector.specs.internal.Stretches.{IsStretch}
use Rattle.simplecss_selector.specs.internal.PlacementSearch.{CanPlace}
use Rattle.simplecss_selector.specs.Shapes.{first_of}
use Rattle.simplecss_selector.proofs.matching.continues.Given as goal

-- the selector matches exactly if the components up to the end of the stretch can be placed at or
-- above the candidate
abbrev pub invariant-loop-candidate : goal.invariant-loop-candidate
invariant-loop-candidate g l =
    let tree = g.E.Element.tree in
    let node = g.E.Element.node in
    record {
      numbered : l.number < length l.ends;
      begun : l.stretch.first ≡ get_or (0 ∷ l.ends) l.number 0;
      is_stretch : IsStretch l.selector l.stretch.first l.stretch.last;
      same : HasPlacement tree l.selector (node l.element)
          ↔ CanPlace tree (first_of l.selector (l.stretch.last + 1)) (node l.candidate);
      spent : l.tests + 1 + longest_stretch l.selector * (tree.depth (node l.candidate) + 1)
          ≤ l.fn.tests + longest_stretch l.selector * (tree.depth (node l.element) + 1);
      placed : l.fn.tests + l.fn.last ≤ l.tests + (l.stretch.last + 1);
      tested : l.fn.tests ≤ l.tests;
    }

abbrev pub decreases-loop-candidate : goal.decreases-loop-candidate
decreases-loop-candidate g l = g.E.Element.tree.depth (g.E.Element.node l.candidate)
