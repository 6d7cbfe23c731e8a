use Rattle.std.proofs.Common.{◌+◌, ◌*◌, ◌≤◌, suc}
use Rattle.css_matching.specs.Bounds.{longest_free, longest_fixed, most_levels}
use Rattle.css_matching.specs.Charges.{IsCharged}
use Rattle.css_matching.proofs.Steps.{SearchState}
use Rattle.css_matching.proofs.Counting.{total}
use Rattle.css_matching.proofs.matching.search.Given as goal

abbrev pub invariant-loop-candidate : goal.invariant-loop-candidate
invariant-loop-candidate g l =
    let c = g.P.Parts.combinator_at l.parts in
    let n = g.E.Candidate.node l.element in
    let v = g.E.Candidate.node l.candidate in
    let tree = g.E.Candidate.tree in
    record {
      state : SearchState tree c (g.E.Candidate.Meets l.parts) l.last l.low n v;
      tested : l.fn.tests + l.last ≤ l.tests + l.low;
      charged : IsCharged (g.E.Candidate.cost l.parts n) l.fn.tests l.fn.total l.tests l.total;
      cheaper : g.E.Candidate.cost l.parts v ≤ g.E.Candidate.cost l.parts n;
      spent : l.tests + longest_fixed c l.last * (tree.depth v + 1) + longest_free c l.last * total tree (most_levels c l.last)
          (suc (tree.depth v)) v
          ≤ l.fn.tests + longest_fixed c l.last * (tree.depth n + 1) + longest_free c l.last * total tree (most_levels c l.last)
          (suc (tree.depth n)) n;
    }

abbrev pub decreases-loop-candidate : goal.decreases-loop-candidate
decreases-loop-candidate g l = g.E.Candidate.tree.depth (g.E.Candidate.node l.candidate)
