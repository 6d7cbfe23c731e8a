use Rattle.std.proofs.Common.{◌≡◌, ℕ, ◌<◌, ◌≤◌, ◌+◌, ◌*◌, sym, arith}
use Rattle.css_matching.specs.Bounds.{run_length, longest_free}
use Rattle.css_matching.proofs.Steps.{beyond_less, count_less, level_begun, level_goes, level_misfit, level_none, level_done, run_fails, tested_run}
use Rattle.css_matching.specs.Placements.IsBeyond.{is_next}
use Rattle.css_matching.proofs.Charging.{charged_more, beyond_cheaper, further_cheaper}
use Rattle.css_matching.proofs.Counting.{level_first, level_more, level_last}
use Rattle.css_matching.specs.Charges.{IsCharged}
use Rattle.css_matching.proofs.matching.level_at.Given.{Over}
use Rattle.css_matching.proofs.matching.level_at.Goals.{After-run_at-in-loop-candidate}
use Rattle.css_matching.proofs.matching.level_at.Goals as goal

up_to : (a b : ℕ) → a < b → a ≤ b
up_to a b h = omega (arith, h)

self : (a : ℕ) → a ≤ a
self a = omega arith

plus : (a b x : ℕ) → a ≤ b → a ≤ b + x
plus a b x h = omega (arith, h)

one_less_here : (a b : ℕ) → a ≡ b + 1 → b < a
one_less_here a b h = omega (arith, h)

-- what the tests have cost after one more run
charged_here : (g : Over) (c : After-run_at-in-loop-candidate g)
    → IsCharged (g.E.Candidate.cost c.args.parts.now (g.E.Candidate.node c.args.lowest.now))
    c.args.tests.now c.args.total.now c.run_at-in-loop-candidate.new.tests
    c.run_at-in-loop-candidate.new.total
charged_here g c =
    let cost = g.E.Candidate.cost c.args.parts.now in
    charged_more (cost (g.E.Candidate.node c.args.lowest.now))
    (cost (g.E.Candidate.node c.loop-candidate.candidate)) c.args.tests.now c.args.total.now
    c.loop-candidate.tests c.loop-candidate.total c.run_at-in-loop-candidate.new.tests
    c.run_at-in-loop-candidate.new.total c.loop-candidate.invariant.cheaper
    c.loop-candidate.invariant.charged c.run_at-in-loop-candidate.ensures.inner

-- how many tests there were when the level ends with this run
bounded_here : (g : Over) (c : After-run_at-in-loop-candidate g)
    → let k = g.P.Parts.combinator_at c.args.parts.now in
    c.run_at-in-loop-candidate.new.tests ≤ c.args.tests.now + run_length k c.args.last
    + longest_free k c.args.last
    * g.E.Candidate.tree.earlier (g.E.Candidate.node c.args.lowest.now)
bounded_here g c =
    let k = g.P.Parts.combinator_at c.args.parts.now in
    let i = c.loop-candidate.invariant in
    level_last (longest_free k c.args.last)
    (g.E.Candidate.tree.earlier (g.E.Candidate.node c.loop-candidate.candidate))
    c.loop-candidate.tests c.run_at-in-loop-candidate.new.tests (run_length k c.loop-candidate.low)
    (c.args.tests.now + run_length k c.args.last)
    (longest_free k c.args.last * g.E.Candidate.tree.earlier (g.E.Candidate.node c.args.lowest.now))
    i.state.bounded c.run_at-in-loop-candidate.ensures.bounded i.spent

pub returns-in-Mismatch-clause-finds : goal.returns-in-Mismatch-clause-finds
returns-in-Mismatch-clause-finds g c =
    run_fails g.E.Candidate.tree (g.P.Parts.combinator_at c.args.parts.now)
    (g.E.Candidate.Meets c.args.parts.now) g.E.Candidate.node c.args.last
    (g.E.Candidate.node c.args.lowest.now) c.run_at.result c.run_at.ensures.finds c.in-Mismatch.is

pub returns-in-Mismatch-clause-bounded : goal.returns-in-Mismatch-clause-bounded
returns-in-Mismatch-clause-bounded g c =
    let k = g.P.Parts.combinator_at c.args.parts.now in
    plus c.run_at.new.tests (c.args.tests.now + run_length k c.args.last)
    (longest_free k c.args.last * g.E.Candidate.tree.earlier (g.E.Candidate.node c.args.lowest.now))
    c.run_at.ensures.bounded

pub returns-in-Complete-clause-bounded : goal.returns-in-Complete-clause-bounded
returns-in-Complete-clause-bounded g c =
    let k = g.P.Parts.combinator_at c.args.parts.now in
    plus c.run_at.new.tests (c.args.tests.now + run_length k c.args.last)
    (longest_free k c.args.last * g.E.Candidate.tree.earlier (g.E.Candidate.node c.args.lowest.now))
    c.in-Complete.ensures.bounded

pub loop-candidate-init : goal.loop-candidate-init
loop-candidate-init g c =
    let k = g.P.Parts.combinator_at c.args.parts.now in
    let tree = g.E.Candidate.tree in
    let f = c.in-Continues.ensures.finds in
    record {
      state = level_begun tree k (g.E.Candidate.Meets c.args.parts.now) c.args.last
          c.in-Continues.rest (g.E.Candidate.node c.args.lowest.now)
          (g.E.Candidate.node c.in-Continues.sibling) f.0 f.1;
      tested = c.in-Continues.ensures.tested;
      charged = c.in-Continues.ensures.inner;
      cheaper = beyond_cheaper tree (g.E.Candidate.cost c.args.parts.now) (g.met.E.Candidate.cost_law c.args.parts.now)
          (g.E.Candidate.node c.in-Continues.sibling) (g.E.Candidate.node c.args.lowest.now) f.0.beyond;
      spent = level_first (longest_free k c.args.last)
          (tree.earlier (g.E.Candidate.node c.in-Continues.sibling))
          (tree.earlier (g.E.Candidate.node c.args.lowest.now)) c.run_at.new.tests
          (run_length k c.args.last) c.args.tests.now
          (beyond_less tree.previous_sibling tree.earlier g.met.E.Candidate.earlier_law
          (g.E.Candidate.node c.in-Continues.sibling) (g.E.Candidate.node c.args.lowest.now)
          f.0.beyond)
          c.in-Continues.ensures.bounded;
    }

pub returns-in-NoNode-clause-bounded : goal.returns-in-NoNode-clause-bounded
returns-in-NoNode-clause-bounded g c =
    bounded_here g (goal.at.returns-in-NoNode-clause-bounded g c).After-run_at-in-loop-candidate

pub returns-in-Complete-run_at-clause-bounded : goal.returns-in-Complete-run_at-clause-bounded
returns-in-Complete-run_at-clause-bounded g c =
    bounded_here g (goal.at.returns-in-Complete-run_at-clause-bounded g c).After-run_at-in-loop-candidate

pub returns-in-None-clause-bounded : goal.returns-in-None-clause-bounded
returns-in-None-clause-bounded g c =
    bounded_here g (goal.at.returns-in-None-clause-bounded g c).After-run_at-in-loop-candidate

pub returns-in-Complete-run_at-clause-finds : goal.returns-in-Complete-run_at-clause-finds
returns-in-Complete-run_at-clause-finds g c =
    level_done g.E.Candidate.tree (g.P.Parts.combinator_at c.args.parts.now)
    (g.E.Candidate.Meets c.args.parts.now) c.args.last c.loop-candidate.low c.in-Complete-run_at.first
    (g.E.Candidate.node c.args.lowest.now) (g.E.Candidate.node c.loop-candidate.candidate)
    c.loop-candidate.invariant.state c.in-Complete-run_at.ensures.finds

pub returns-in-None-clause-finds : goal.returns-in-None-clause-finds
returns-in-None-clause-finds g c =
    level_none g.E.Candidate.tree (g.P.Parts.combinator_at c.args.parts.now)
    (g.E.Candidate.Meets c.args.parts.now) c.args.last c.loop-candidate.low
    (g.E.Candidate.node c.args.lowest.now) (g.E.Candidate.node c.loop-candidate.candidate)
    c.loop-candidate.invariant.state c.in-Mismatch-run_at.ensures.finds (sym c.in-None.ensures)

pub loop-candidate-preserved-in-Some : goal.loop-candidate-preserved-in-Some
loop-candidate-preserved-in-Some g c =
    let k = g.P.Parts.combinator_at c.args.parts.now in
    let tree = g.E.Candidate.tree in
    let i = c.loop-candidate.invariant in
    let v = g.E.Candidate.node c.loop-candidate.candidate in
    let w = g.E.Candidate.node c.in-Some.sibling in
    record {
      state = level_misfit tree k (g.E.Candidate.Meets c.args.parts.now) g.met.E.Candidate.sibling_law
          c.args.last c.loop-candidate.low (g.E.Candidate.node c.args.lowest.now) v w i.state
          c.in-Mismatch-run_at.ensures.finds (sym c.in-Some.ensures);
      tested = omega (arith, i.tested, c.in-Mismatch-run_at.ensures.tested);
      charged = charged_here g (goal.at.loop-candidate-preserved-in-Some g c).After-run_at-in-loop-candidate;
      cheaper = further_cheaper tree (g.E.Candidate.cost c.args.parts.now) (g.met.E.Candidate.cost_law c.args.parts.now) w v
          (g.E.Candidate.node c.args.lowest.now) (is_next (sym c.in-Some.ensures)) i.cheaper;
      spent = level_more (longest_free k c.args.last) (tree.earlier w) (tree.earlier v)
          c.loop-candidate.tests c.run_at-in-loop-candidate.new.tests
          (run_length k c.loop-candidate.low) (c.args.tests.now + run_length k c.args.last)
          (longest_free k c.args.last * tree.earlier (g.E.Candidate.node c.args.lowest.now))
          (one_less_here _ _ (count_less tree.previous_sibling tree.earlier
          g.met.E.Candidate.earlier_law v w (sym c.in-Some.ensures)))
          i.state.bounded
          c.in-Mismatch-run_at.ensures.bounded i.spent;
    }

pub loop-candidate-smaller : goal.loop-candidate-smaller
loop-candidate-smaller g c =
    beyond_less g.E.Candidate.tree.previous_sibling g.E.Candidate.tree.earlier
    g.met.E.Candidate.earlier_law (g.E.Candidate.node c.in-Continues-run_at.sibling)
    (g.E.Candidate.node c.loop-candidate.candidate) c.in-Continues-run_at.ensures.finds.0.beyond

pub loop-candidate-preserved : goal.loop-candidate-preserved
loop-candidate-preserved g c =
    let k = g.P.Parts.combinator_at c.args.parts.now in
    let tree = g.E.Candidate.tree in
    let i = c.loop-candidate.invariant in
    let f = c.in-Continues-run_at.ensures.finds in
    let v = g.E.Candidate.node c.loop-candidate.candidate in
    let w = g.E.Candidate.node c.in-Continues-run_at.sibling in
    record {
      state = level_goes tree k (g.E.Candidate.Meets c.args.parts.now) c.args.last
          c.loop-candidate.low c.in-Continues-run_at.rest (g.E.Candidate.node c.args.lowest.now) v w
          i.state f.0 f.1;
      tested = omega (arith, i.tested, c.in-Continues-run_at.ensures.tested);
      charged = charged_here g (goal.at.loop-candidate-preserved g c).After-run_at-in-loop-candidate;
      cheaper = further_cheaper tree (g.E.Candidate.cost c.args.parts.now) (g.met.E.Candidate.cost_law c.args.parts.now) w v
          (g.E.Candidate.node c.args.lowest.now) (f.0.beyond) i.cheaper;
      spent = level_more (longest_free k c.args.last) (tree.earlier w) (tree.earlier v)
          c.loop-candidate.tests c.run_at-in-loop-candidate.new.tests
          (run_length k c.loop-candidate.low) (c.args.tests.now + run_length k c.args.last)
          (longest_free k c.args.last * tree.earlier (g.E.Candidate.node c.args.lowest.now))
          (beyond_less tree.previous_sibling tree.earlier g.met.E.Candidate.earlier_law w v
          f.0.beyond)
          i.state.bounded
          c.in-Continues-run_at.ensures.bounded i.spent;
    }

pub returns-in-Mismatch-clause-tested : goal.returns-in-Mismatch-clause-tested
returns-in-Mismatch-clause-tested g c =
    tested_run c.args.tests.now c.run_at.new.tests c.args.last c.run_at.result
    c.run_at.ensures.tested c.in-Mismatch.is

pub returns-in-Complete-clause-tested : goal.returns-in-Complete-clause-tested
returns-in-Complete-clause-tested g c = c.in-Complete.ensures.tested

pub returns-in-NoNode-clause-tested : goal.returns-in-NoNode-clause-tested
returns-in-NoNode-clause-tested g c =
    let i = c.loop-candidate.invariant in
    omega (arith, i.tested, i.state.fewer, c.in-NoNode.ensures.tested)

pub returns-in-Complete-run_at-clause-tested : goal.returns-in-Complete-run_at-clause-tested
returns-in-Complete-run_at-clause-tested g c =
    let i = c.loop-candidate.invariant in
    omega (arith, i.tested, i.state.fewer, c.in-Complete-run_at.ensures.tested)

pub returns-in-None-clause-tested : goal.returns-in-None-clause-tested
returns-in-None-clause-tested g c =
    let i = c.loop-candidate.invariant in
    omega (arith, i.tested, i.state.fewer, c.in-Mismatch-run_at.ensures.tested)

pub returns-in-NoNode-clause-inner : goal.returns-in-NoNode-clause-inner
returns-in-NoNode-clause-inner g c =
    charged_here g (goal.at.returns-in-NoNode-clause-inner g c).After-run_at-in-loop-candidate

pub returns-in-Complete-run_at-clause-inner : goal.returns-in-Complete-run_at-clause-inner
returns-in-Complete-run_at-clause-inner g c =
    charged_here g (goal.at.returns-in-Complete-run_at-clause-inner g c).After-run_at-in-loop-candidate

pub returns-in-None-clause-inner : goal.returns-in-None-clause-inner
returns-in-None-clause-inner g c =
    charged_here g (goal.at.returns-in-None-clause-inner g c).After-run_at-in-loop-candidate
