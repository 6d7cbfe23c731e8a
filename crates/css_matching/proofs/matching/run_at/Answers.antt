use Rattle.std.proofs.Common.{◌≡◌, ℕ, ◌+◌, ◌<◌, ◌≤◌, Some, None, refl, sym, subst, arith}
use Rattle.std.specs.Option.{option_map_or}
use Rattle.css_matching.proofs.Steps.{borrowed, next_at, up_of, run_start, run_step, run_none_adjacent, run_none_sibling, run_continues, run_complete}
use Rattle.css_matching.proofs.Charging.{charged_none, charged_one, along_cheaper}
use Rattle.css_matching.proofs.Counting.{run_length-step, run_length-some}
use Rattle.css_matching.specs.Bounds.{run_length}
use Rattle.css_matching.specs.Charges.{IsCharged}
use Rattle.css_matching.proofs.matching.run_at.Given.{Over}
use Rattle.css_matching.proofs.matching.run_at.Goals.{After-is_met_at, Else-not-is_met_at}
use Rattle.css_matching.proofs.matching.run_at.Goals as goal

some_of : (a : ℕ) → (a ≡ 0 → ⊥) → 0 < a
some_of a h = omega (arith, h)

-- what the node that is tried is
node_is : (g : Over) (c : After-is_met_at g)
    → g.E.Candidate.node c.unwrap_or-node.result.now
    ≡ option_map_or g.E.Candidate.node c.steps.top (g.E.Candidate.node c.args.lowest.now)
node_is g c =
    borrowed g.E.Candidate.node c.as_ref.result c.steps.top c.args.lowest c.unwrap_or-node.result
    c.as_ref.ensures.value c.unwrap_or-node.ensures

-- what the tests have cost after one more
charged_here : (g : Over) (c : After-is_met_at g)
    → IsCharged (g.E.Candidate.cost c.args.parts.now (g.E.Candidate.node c.args.lowest.now))
    c.args.tests.now c.args.total.now c.is_met_at.new.tests c.is_met_at.new.total
charged_here g c =
    let node = g.E.Candidate.node in
    let cost = g.E.Candidate.cost c.args.parts.now in
    charged_one (cost (node c.args.lowest.now)) (cost (node c.unwrap_or-node.result.now))
    c.args.tests.now c.args.total.now c.steps.tests c.steps.total c.is_met_at.new.tests
    c.is_met_at.new.total
    (along_cheaper g.E.Candidate.tree cost (g.met.E.Candidate.cost_law c.args.parts.now)
    (node c.unwrap_or-node.result.now) (option_map_or node c.steps.top (node c.args.lowest.now))
    (node c.args.lowest.now) (node_is g c) c.steps.invariant.state.along)
    c.steps.invariant.charged c.is_met_at.ensures.inner c.is_met_at.ensures.counted

-- no more tests than the run has parts
bounded_here : (g : Over) (c : After-is_met_at g)
    → c.is_met_at.new.tests
    ≤ c.args.tests.now + run_length (g.P.Parts.combinator_at c.args.parts.now) c.args.last
bounded_here g c =
    let some = run_length-some (g.P.Parts.combinator_at c.args.parts.now) c.steps.index in
    omega (arith, c.is_met_at.ensures.counted, c.steps.invariant.counted, some)

-- the node that is tried meets its part
met_here : (g : Over) (c : Else-not-is_met_at g)
    → g.E.Candidate.Meets c.args.parts.now c.steps.index
    (option_map_or g.E.Candidate.node c.steps.top (g.E.Candidate.node c.args.lowest.now))
met_here g c =
    let node = g.E.Candidate.node in
    let e = borrowed node c.as_ref.result c.steps.top c.args.lowest c.unwrap_or-node.result
    c.as_ref.ensures.value c.unwrap_or-node.ensures in
    subst (g.E.Candidate.Meets c.args.parts.now c.steps.index) e
    (c.if-not-is_met_at.ensures.answer.0 refl)

pub steps-init : goal.steps-init
steps-init g c =
    record {
      state = run_start g.E.Candidate.tree (g.P.Parts.combinator_at c.args.parts.now)
          (g.E.Candidate.Meets c.args.parts.now) c.args.last _;
      tested = refl;
      charged = charged_none _ c.args.tests.now c.args.total.now;
      counted = refl;
    }

pub returns-in-Descendant-clause-finds : goal.returns-in-Descendant-clause-finds
returns-in-Descendant-clause-finds g c =
    let node = g.E.Candidate.node in
    let u = option_map_or node c.steps.top (node c.args.lowest.now) in
    let at = goal.at.returns-in-Descendant-clause-finds g c in
    run_complete g.E.Candidate.tree (g.P.Parts.combinator_at c.args.parts.now)
    (g.E.Candidate.Meets c.args.parts.now) g.met.E.Candidate.sibling_law c.args.last c.steps.index _ u
    c.steps.invariant.state (λ some. up_of _ _ c.combinator-combinator.ensures c.in-Descendant.is) (met_here g at.Else-not-is_met_at)

pub returns-in-None-clause-finds : goal.returns-in-None-clause-finds
returns-in-None-clause-finds g c =
    let node = g.E.Candidate.node in
    let tree = g.E.Candidate.tree in
    let u = option_map_or node c.steps.top (node c.args.lowest.now) in
    let at = goal.at.returns-in-None-clause-finds g c in
    run_none_adjacent tree (g.P.Parts.combinator_at c.args.parts.now)
    (g.E.Candidate.Meets c.args.parts.now) c.args.last c.steps.index _ u
    c.steps.invariant.state (some_of _ c.if-index-eq0.false) (sym c.in-Adjacent.ensures) (met_here g at.Else-not-is_met_at)
    (next_at tree.previous_sibling _ u None (node_is g at.After-is_met_at) c.in-None.ensures)

pub returns-in-None-prev_sibling_element-clause-finds :
    goal.returns-in-None-prev_sibling_element-clause-finds
returns-in-None-prev_sibling_element-clause-finds g c =
    let node = g.E.Candidate.node in
    let tree = g.E.Candidate.tree in
    let u = option_map_or node c.steps.top (node c.args.lowest.now) in
    let at = goal.at.returns-in-None-prev_sibling_element-clause-finds g c in
    run_none_sibling tree (g.P.Parts.combinator_at c.args.parts.now)
    (g.E.Candidate.Meets c.args.parts.now) c.args.last c.steps.index _ u
    c.steps.invariant.state (some_of _ c.if-index-eq0.false) (sym c.in-Sibling.ensures) (met_here g at.Else-not-is_met_at)
    (next_at tree.previous_sibling _ u None (node_is g at.After-is_met_at) c.in-None-prev_sibling_element.ensures)

pub returns-in-Some-prev_sibling_element-clause-finds :
    goal.returns-in-Some-prev_sibling_element-clause-finds
returns-in-Some-prev_sibling_element-clause-finds g c =
    let node = g.E.Candidate.node in
    let tree = g.E.Candidate.tree in
    let u = option_map_or node c.steps.top (node c.args.lowest.now) in
    let at = goal.at.returns-in-Some-prev_sibling_element-clause-finds g c in
    run_continues tree (g.P.Parts.combinator_at c.args.parts.now)
    (g.E.Candidate.Meets c.args.parts.now) g.met.E.Candidate.sibling_law c.args.last c.steps.index _ u
    (node c.in-Some-prev_sibling_element.before)
    c.steps.invariant.state (some_of _ c.if-index-eq0.false) (sym c.in-Sibling.ensures) (met_here g at.Else-not-is_met_at)
    (next_at tree.previous_sibling _ u (Some (node c.in-Some-prev_sibling_element.before)) (node_is g at.After-is_met_at)
    c.in-Some-prev_sibling_element.ensures)

pub steps-preserved : goal.steps-preserved
steps-preserved g c =
    let node = g.E.Candidate.node in
    let tree = g.E.Candidate.tree in
    let u = option_map_or node c.steps.top (node c.args.lowest.now) in
    let at = goal.at.steps-preserved g c in
    let some = some_of _ c.if-index-eq0.false in
    record {
      state = run_step tree (g.P.Parts.combinator_at c.args.parts.now)
          (g.E.Candidate.Meets c.args.parts.now) g.met.E.Candidate.sibling_law c.args.last c.steps.index
          _ u (node c.in-Some.before) c.steps.invariant.state some (sym c.in-Adjacent.ensures) (met_here g at.Else-not-is_met_at)
          (next_at tree.previous_sibling _ u (Some (node c.in-Some.before)) (node_is g at.After-is_met_at)
          c.in-Some.ensures);
      tested = omega (arith, c.is_met_at.ensures.counted, c.steps.invariant.tested, some);
      charged = charged_here g at.After-is_met_at;
      counted = omega (
        arith,
        c.is_met_at.ensures.counted,
        c.steps.invariant.counted,
        run_length-step (g.P.Parts.combinator_at c.args.parts.now) c.steps.index some
            (sym c.in-Adjacent.ensures),
      );
    }

pub returns-in-Some-prev_sibling_element-clause-bounded : goal.returns-in-Some-prev_sibling_element-clause-bounded
returns-in-Some-prev_sibling_element-clause-bounded g c =
    bounded_here g (goal.at.returns-in-Some-prev_sibling_element-clause-bounded g c).After-is_met_at

pub returns-then-not-is_met_at-clause-tested : goal.returns-then-not-is_met_at-clause-tested
returns-then-not-is_met_at-clause-tested g c =
    omega (arith, c.is_met_at.ensures.counted, c.steps.invariant.tested, c.steps.invariant.state.within)

pub returns-then-index-eq0-clause-tested : goal.returns-then-index-eq0-clause-tested
returns-then-index-eq0-clause-tested g c =
    omega (arith, c.is_met_at.ensures.counted, c.steps.invariant.tested, c.steps.invariant.state.within, c.if-index-eq0.true)

pub returns-in-Descendant-clause-tested : goal.returns-in-Descendant-clause-tested
returns-in-Descendant-clause-tested g c =
    omega (arith, c.is_met_at.ensures.counted, c.steps.invariant.tested, c.steps.invariant.state.within)

pub returns-in-None-clause-tested : goal.returns-in-None-clause-tested
returns-in-None-clause-tested g c =
    omega (arith, c.is_met_at.ensures.counted, c.steps.invariant.tested, c.steps.invariant.state.within)

pub returns-in-None-prev_sibling_element-clause-tested : goal.returns-in-None-prev_sibling_element-clause-tested
returns-in-None-prev_sibling_element-clause-tested g c =
    omega (arith, c.is_met_at.ensures.counted, c.steps.invariant.tested, c.steps.invariant.state.within)

pub returns-in-Some-prev_sibling_element-clause-tested : goal.returns-in-Some-prev_sibling_element-clause-tested
returns-in-Some-prev_sibling_element-clause-tested g c =
    omega (arith, c.is_met_at.ensures.counted, c.steps.invariant.tested, c.steps.invariant.state.within, some_of _ c.if-index-eq0.false)

pub returns-then-not-is_met_at-clause-inner : goal.returns-then-not-is_met_at-clause-inner
returns-then-not-is_met_at-clause-inner g c =
    charged_here g (goal.at.returns-then-not-is_met_at-clause-inner g c).After-is_met_at

pub returns-then-index-eq0-clause-inner : goal.returns-then-index-eq0-clause-inner
returns-then-index-eq0-clause-inner g c =
    charged_here g (goal.at.returns-then-index-eq0-clause-inner g c).After-is_met_at

pub returns-in-Descendant-clause-inner : goal.returns-in-Descendant-clause-inner
returns-in-Descendant-clause-inner g c =
    charged_here g (goal.at.returns-in-Descendant-clause-inner g c).After-is_met_at

pub returns-in-None-clause-inner : goal.returns-in-None-clause-inner
returns-in-None-clause-inner g c =
    charged_here g (goal.at.returns-in-None-clause-inner g c).After-is_met_at

pub returns-in-None-prev_sibling_element-clause-inner : goal.returns-in-None-prev_sibling_element-clause-inner
returns-in-None-prev_sibling_element-clause-inner g c =
    charged_here g (goal.at.returns-in-None-prev_sibling_element-clause-inner g c).After-is_met_at

pub returns-in-Some-prev_sibling_element-clause-inner : goal.returns-in-Some-prev_sibling_element-clause-inner
returns-in-Some-prev_sibling_element-clause-inner g c =
    charged_here g (goal.at.returns-in-Some-prev_sibling_element-clause-inner g c).After-is_met_at

pub returns-in-Descendant-clause-bounded : goal.returns-in-Descendant-clause-bounded
returns-in-Descendant-clause-bounded g c =
    bounded_here g (goal.at.returns-in-Descendant-clause-bounded g c).After-is_met_at

pub returns-in-None-clause-bounded : goal.returns-in-None-clause-bounded
returns-in-None-clause-bounded g c =
    bounded_here g (goal.at.returns-in-None-clause-bounded g c).After-is_met_at

pub returns-in-None-prev_sibling_element-clause-bounded : goal.returns-in-None-prev_sibling_element-clause-bounded
returns-in-None-prev_sibling_element-clause-bounded g c =
    bounded_here g (goal.at.returns-in-None-prev_sibling_element-clause-bounded g c).After-is_met_at
