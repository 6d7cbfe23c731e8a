use Rattle.std.proofs.Common.{◌+◌, ◌*◌, ◌≤◌}
use Rattle.std.specs.Option.{option_map_or}
use Rattle.css_matching.specs.Bounds.{longest_free, fixed_length, level_count, width}
use Rattle.css_matching.specs.Charges.{IsCharged}
use Rattle.css_matching.proofs.Steps.{StretchState}
use Rattle.css_matching.proofs.matching.stretch_at.Given as goal

abbrev pub invariant-steps : goal.invariant-steps
invariant-steps g l =
    let c = g.P.Parts.combinator_at l.parts in
    let n = g.E.Candidate.node l.lowest in
    let u = option_map_or g.E.Candidate.node l.top n in
    let tree = g.E.Candidate.tree in
    record {
      state : StretchState tree c (g.E.Candidate.Meets l.parts) l.last l.index n u;
      tested : l.fn.tests + l.last ≤ l.tests + l.index;
      charged : IsCharged (g.E.Candidate.cost l.parts n) l.fn.tests l.fn.total l.tests l.total;
      spent : l.tests + fixed_length c l.index + longest_free c l.last * width tree (level_count c l.index) u
          ≤ l.fn.tests + fixed_length c l.last + longest_free c l.last * width tree (level_count c l.last) n;
    }

abbrev pub decreases-steps : goal.decreases-steps
decreases-steps g l = l.index
