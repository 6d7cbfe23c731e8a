use Rattle.std.proofs.Common.{◌≤◌, ◌+◌, length, take}
use Rattle.std.specs.Prelude.{codes}
use Rattle.cssq_tree.specs.TreeText.{fields_in, fields_of}
use Rattle.cssq_tree.specs.internal.Spans.{IsEnd}
use Rattle.cssq_tree.specs.internal.Marks.{AreMarked}
use Rattle.cssq_tree.proofs.Fields.{Counted, left}
use Rattle.cssq_tree.proofs.FirstValues.{SpanSoFar, OthersAre}
use Rattle.cssq_tree.proofs.tree.read_each.Given as goal

abbrev pub invariant-loop-rest : goal.invariant-loop-rest
invariant-loop-rest l = record {
  passed : Counted l.number (fields_of l.all) (fields_in l.rest) l.count;
  few : l.count + left l.rest ≤ length l.all + 1;
  end : IsEnd l.all l.rest;
  class : SpanSoFar l.all (codes "class") (fields_of l.all) (fields_in l.rest) l.values.class;
  id : SpanSoFar l.all (codes "id") (fields_of l.all) (fields_in l.rest) l.values.id;
  others : OthersAre (fields_of l.all) (fields_in l.rest) l.values.others;
  marked : AreMarked (take l.count (fields_of l.all)) l.seen;
}

abbrev pub decreases-loop-rest : goal.decreases-loop-rest
decreases-loop-rest l = left l.rest
