use Rattle.std.proofs.Common.{◌≡◌, ◌+◌, ◌≤◌}
use Rattle.std.specs.Option.{option_map_or}
use Rattle.simplecss_selector.specs.Placements.{Meets}
use Rattle.simplecss_selector.specs.Shapes.{component_at}
use Rattle.simplecss_selector.proofs.Greedy.{Tracks}
use Rattle.simplecss_selector.proofs.LongestStretch.{AreJoined}
use Rattle.simplecss_selector.proofs.matching.climb.Given as goal

-- the components from `index` on match, from `lowest` up to `top`
abbrev pub invariant-steps : goal.invariant-steps
invariant-steps g l =
    let tree = g.E.Element.tree in
    let node = g.E.Element.node in
    let n = node l.lowest in
    let u = option_map_or node l.top n in
    record {
      from_stretch : l.stretch.first ≤ l.index;
      within_stretch : l.index ≤ l.stretch.last;
      tracks : Tracks tree l.selector (l.stretch.last + 1) (l.index + 1) n u;
      met : Meets tree u (component_at l.selector l.index).compound;
      joined : AreJoined l.selector (l.index + 1) (l.stretch.last + 1);
      no_deeper : tree.depth u ≤ tree.depth n;
      counted : l.tests + l.index ≡ l.initial.tests + l.stretch.last;
    }

abbrev pub decreases-steps : goal.decreases-steps
decreases-steps g l = l.index
