use Rattle.std.proofs.Common.{◌≡◌, ◌≤◌, ◌+◌, ◌++◌, length, map}
use Rattle.css_syntax.specs.ListReaders.{items_to_come}
use Rattle.css_styles.specs.Contenders.{declared_in, in_turn}
use Rattle.css_explain.specs.internal.Parts.{contender_of, contends}
use Rattle.css_explain.proofs.gathering.push_part.Given as goal

-- those so far with those of the items that are to come are all
abbrev pub invariant-items : goal.invariant-items
invariant-items l = record {
  come : map contender_of l.found.items
      ++ in_turn (contends l.part) l.place (declared_in (items_to_come l.declarations))
      ≡ map contender_of l.fn.found.items
      ++ in_turn (contends l.part) 0 (declared_in (items_to_come l.fn.declarations));
  counted : l.place + length (items_to_come l.declarations) ≤ length (items_to_come l.fn.declarations);
}

abbrev pub decreases-items : goal.decreases-items
decreases-items l = length (items_to_come l.declarations)
