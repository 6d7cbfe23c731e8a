use Rattle.std.proofs.Common.{◌+◌, ◌*◌, ◌≤◌}
use Rattle.css_matching.specs.Bounds.{longest_free, run_length}
use Rattle.css_matching.specs.Charges.{IsCharged}
use Rattle.css_matching.proofs.Steps.{LevelState}
use Rattle.css_matching.proofs.matching.level_at.Given as goal

abbrev pub invariant-loop-candidate : goal.invariant-loop-candidate
invariant-loop-candidate g l =
    let c = g.P.Parts.combinator_at l.parts in
    let n = g.E.Candidate.node l.lowest in
    let v = g.E.Candidate.node l.candidate in
    let earlier = g.E.Candidate.tree.earlier in
    record {
      state : LevelState g.E.Candidate.tree c (g.E.Candidate.Meets l.parts) l.last l.low n v;
      tested : l.fn.tests + l.last ≤ l.tests + l.low;
      charged : IsCharged (g.E.Candidate.cost l.parts n) l.fn.tests l.fn.total l.tests l.total;
      cheaper : g.E.Candidate.cost l.parts v ≤ g.E.Candidate.cost l.parts n;
      spent : l.tests + longest_free c l.last * (earlier v + 1)
          ≤ l.fn.tests + run_length c l.last + longest_free c l.last * earlier n;
    }

abbrev pub decreases-loop-candidate : goal.decreases-loop-candidate
decreases-loop-candidate g l = g.E.Candidate.tree.earlier (g.E.Candidate.node l.candidate)
