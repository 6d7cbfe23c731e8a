use Rattle.std.proofs.Common.{◌≡◌, ◌+◌}
use Rattle.std.specs.Option.{option_map_or}
use Rattle.css_matching.specs.Bounds.{run_length}
use Rattle.css_matching.specs.Charges.{IsCharged}
use Rattle.css_matching.proofs.Steps.{RunState}
use Rattle.css_matching.proofs.matching.run_at.Given as goal

abbrev pub invariant-steps : goal.invariant-steps
invariant-steps g l =
    let c = g.P.Parts.combinator_at l.parts in
    let n = g.E.Candidate.node l.lowest in
    record {
      state : RunState g.E.Candidate.tree c (g.E.Candidate.Meets l.parts) l.last l.index n
          (option_map_or g.E.Candidate.node l.top n);
      tested : l.fn.tests + l.last ≡ l.tests + l.index;
      charged : IsCharged (g.E.Candidate.cost l.parts n) l.fn.tests l.fn.total l.tests l.total;
      counted : l.tests + run_length c l.index ≡ l.fn.tests + run_length c l.last;
    }

abbrev pub decreases-steps : goal.decreases-steps
decreases-steps g l = l.index
