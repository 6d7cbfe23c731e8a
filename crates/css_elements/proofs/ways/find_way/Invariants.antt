use Rattle.std.proofs.Common.{◌+◌, ◌<◌, length, reverse, IfSome}
use Rattle.css_elements.specs.Ways.{LeadsTo, IsAbove}
use Rattle.css_elements.proofs.Walking.{past}
use Rattle.css_elements.proofs.ways.find_way.Given as goal

-- the place is above where the way begins, and the elements so far lead to where it ends
abbrev pub invariant-climb : goal.invariant-climb
invariant-climb l = record {
  inside : IfSome l.place (λ index. index < length l.tree);
  from : IsAbove l.tree l.place l.fn.from;
  within : IfSome l.above (λ index. index < length l.tree);
  leads : LeadsTo l.tree l.above (reverse l.between.items) l.fn.to;
}

abbrev pub decreases-climb : goal.decreases-climb
decreases-climb l = past l.above + past l.place
