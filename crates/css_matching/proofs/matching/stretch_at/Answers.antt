use Rattle.std.proofs.Common.{◌≡◌, ℕ, ◌<◌, ◌≤◌, ◌+◌, ◌-◌, ◌*◌, Some, None, sym, ◌∙◌, subst, arith}
use Rattle.std.specs.Option.{option_map_or}
use Rattle.css_matching.specs.declared.Combinator.{Combinator}
use Rattle.css_matching.specs.Trees.{Tree}
use Rattle.css_matching.specs.internal.Search.{Level}
use Rattle.css_matching.specs.Bounds.{longest_free, run_length, fixed_length, above_length, level_count, width}
use Rattle.css_matching.proofs.Steps.{borrowed, next_at, descendant_of, stretch_start, stretch_step, stretch_none, stretch_continues}
use Rattle.css_matching.proofs.Charging.{charged_none, charged_more, along_up_cheaper}
use Rattle.css_matching.proofs.Counting.{longest_free-below, run_fixed, above_length-child, level_count-child, width-once, width-parent, stretch_last, stretch_more}
use Rattle.css_matching.specs.Charges.{IsCharged}
use Rattle.css_matching.proofs.matching.stretch_at.Given.{Over}
use Rattle.css_matching.proofs.matching.stretch_at.Goals.{After-level_at}
use Rattle.css_matching.proofs.matching.stretch_at.Goals as goal

some_of : (a : ℕ) → (a ≡ 0 → ⊥) → 0 < a
some_of a h = omega (arith, h)

same : (a : ℕ) → a ≤ a
same a = omega arith

-- what is spent when a stretch ends with the level that was tried at `x`, which is `u`
ended : {Node : Type 0} (tree : Tree Node) (k : ℕ → Combinator) (last index : ℕ) (x u n : Node)
    (now after begun : ℕ) → x ≡ u → index ≤ last
    → after ≤ now + run_length k index + longest_free k index * tree.earlier x
    → now + fixed_length k index + longest_free k last * width tree (level_count k index) u
    ≤ begun + fixed_length k last + longest_free k last * width tree (level_count k last) n
    → after
    ≤ begun + fixed_length k last + longest_free k last * width tree (level_count k last) n
ended tree k last index x u n now after begun e le spent before =
    stretch_last (longest_free k last) (longest_free k index) (run_length k index)
    (fixed_length k index) (tree.earlier x) (width tree (level_count k index) u) now after
    (begun + fixed_length k last) (longest_free k last * width tree (level_count k last) n)
    (longest_free-below k index last le) (run_fixed k index)
    (subst (λ y. tree.earlier y ≤ width tree (level_count k index) u) (sym e)
    (width-once tree k index u))
    spent before

went_on : {Node : Type 0} (tree : Tree Node) (k : ℕ → Combinator) (last index rest : ℕ)
    (x u w n : Node) (now after begun : ℕ) → x ≡ u → index ≤ last
    → level_count k index ≡ level_count k rest + 1
    → fixed_length k index ≡ run_length k index + fixed_length k rest → tree.parent u ≡ Some w
    → after ≤ now + run_length k index + longest_free k index * tree.earlier x
    → now + fixed_length k index + longest_free k last * width tree (level_count k index) u
    ≤ begun + fixed_length k last + longest_free k last * width tree (level_count k last) n
    → after + fixed_length k rest + longest_free k last * width tree (level_count k rest) w
    ≤ begun + fixed_length k last + longest_free k last * width tree (level_count k last) n
went_on tree k last index rest x u w n now after begun e le levels fixed up spent before =
    stretch_more (longest_free k last) (longest_free k index) (run_length k index)
    (fixed_length k index) (fixed_length k rest) (tree.earlier x)
    (width tree (level_count k index) u) (width tree (level_count k rest) w) now after
    (begun + fixed_length k last) (longest_free k last * width tree (level_count k last) n)
    (longest_free-below k index last le) fixed
    (subst (λ y. width tree (level_count k index) u
    ≡ tree.earlier y + width tree (level_count k rest) w) (sym e)
    (width-parent tree (level_count k rest) (level_count k index) u w levels up))
    spent before

fixed_on : (a r b c : ℕ) → a ≡ r + b → b ≡ c → a ≡ r + c
fixed_on a r b c e f = cc

-- what the node that is tried is
node_is : (g : Over) (c : After-level_at g)
    → g.E.Candidate.node c.unwrap_or-node.result.now
    ≡ option_map_or g.E.Candidate.node c.steps.top (g.E.Candidate.node c.args.lowest.now)
node_is g c =
    borrowed g.E.Candidate.node c.as_ref.result c.steps.top c.args.lowest c.unwrap_or-node.result
    c.as_ref.ensures.value c.unwrap_or-node.ensures

-- what the tests have cost after one more level
charged_here : (g : Over) (c : After-level_at g)
    → IsCharged (g.E.Candidate.cost c.args.parts.now (g.E.Candidate.node c.args.lowest.now))
    c.args.tests.now c.args.total.now c.level_at.new.tests c.level_at.new.total
charged_here g c =
    let node = g.E.Candidate.node in
    let cost = g.E.Candidate.cost c.args.parts.now in
    charged_more (cost (node c.args.lowest.now)) (cost (node c.unwrap_or-node.result.now))
    c.args.tests.now c.args.total.now c.steps.tests c.steps.total c.level_at.new.tests
    c.level_at.new.total
    (along_up_cheaper g.E.Candidate.tree cost (g.met.E.Candidate.cost_law c.args.parts.now)
    (node c.unwrap_or-node.result.now) (option_map_or node c.steps.top (node c.args.lowest.now))
    (node c.args.lowest.now) (node_is g c) c.steps.invariant.state.along)
    c.steps.invariant.charged c.level_at.ensures.inner

-- how many tests there were when the stretch ends with this level
bounded_here : (g : Over) (c : After-level_at g)
    → let k = g.P.Parts.combinator_at c.args.parts.now in
    c.level_at.new.tests ≤ c.args.tests.now + fixed_length k c.args.last
    + longest_free k c.args.last
    * width g.E.Candidate.tree (level_count k c.args.last) (g.E.Candidate.node c.args.lowest.now)
bounded_here g c =
    let node = g.E.Candidate.node in
    ended g.E.Candidate.tree (g.P.Parts.combinator_at c.args.parts.now) c.args.last c.steps.index
    (node c.unwrap_or-node.result.now) (option_map_or node c.steps.top (node c.args.lowest.now))
    (node c.args.lowest.now) c.steps.tests c.level_at.new.tests c.args.tests.now (node_is g c)
    c.steps.invariant.state.within c.level_at.ensures.bounded c.steps.invariant.spent

pub steps-init : goal.steps-init
steps-init g c =
    record {
      state = stretch_start g.E.Candidate.tree (g.P.Parts.combinator_at c.args.parts.now)
          (g.E.Candidate.Meets c.args.parts.now) c.args.last (g.E.Candidate.node c.args.lowest.now);
      tested = same _;
      charged = charged_none _ c.args.tests.now c.args.total.now;
      spent = same _;
    }

pub returns-in_default-clause-bounded : goal.returns-in_default-clause-bounded
returns-in_default-clause-bounded g c =
    bounded_here g (goal.at.returns-in_default-clause-bounded g c).After-level_at

pub returns-then-first-eq0-clause-bounded : goal.returns-then-first-eq0-clause-bounded
returns-then-first-eq0-clause-bounded g c =
    bounded_here g (goal.at.returns-then-first-eq0-clause-bounded g c).After-level_at

pub returns-in_default-parent_element-clause-bounded : goal.returns-in_default-parent_element-clause-bounded
returns-in_default-parent_element-clause-bounded g c =
    bounded_here g (goal.at.returns-in_default-parent_element-clause-bounded g c).After-level_at

pub returns-in_default-parent_element-clause-finds :
    goal.returns-in_default-parent_element-clause-finds
returns-in_default-parent_element-clause-finds g c =
    let node = g.E.Candidate.node in
    let tree = g.E.Candidate.tree in
    let k = g.P.Parts.combinator_at c.args.parts.now in
    let meets = g.E.Candidate.Meets c.args.parts.now in
    let u = option_map_or node c.steps.top (node c.args.lowest.now) in
    let tried = (goal.at.returns-in_default-parent_element-clause-finds g c).After-level_at in
    let e = node_is g tried in
    stretch_none tree k meets c.args.last c.steps.index c.in-Some.first (node c.args.lowest.now) u
    c.steps.invariant.state
    (subst (Level tree k meets c.in-Some.first c.steps.index) e c.in-Some.ensures.finds)
    (some_of c.in-Some.first c.if-first-eq0.false)
    (next_at tree.parent (node c.unwrap_or-node.result.now) u None e
    c.in_default-parent_element.ensures)

pub steps-preserved : goal.steps-preserved
steps-preserved g c =
    let node = g.E.Candidate.node in
    let tree = g.E.Candidate.tree in
    let k = g.P.Parts.combinator_at c.args.parts.now in
    let meets = g.E.Candidate.Meets c.args.parts.now in
    let tried = (goal.at.steps-preserved g c).After-level_at in
    let u = option_map_or node c.steps.top (node c.args.lowest.now) in
    let w = node c.in-Some-parent_element.above in
    let e = node_is g tried in
    let some = some_of c.in-Some.first c.if-first-eq0.false in
    let up = next_at tree.parent (node c.unwrap_or-node.result.now) u (Some w) e
    c.in-Some-parent_element.ensures in
    let child = sym c.in-Child.ensures in
    record {
      state = stretch_step tree k meets c.args.last c.steps.index c.in-Some.first
          (node c.args.lowest.now) u w c.steps.invariant.state
          (subst (Level tree k meets c.in-Some.first c.steps.index) e c.in-Some.ensures.finds)
          some child up;
      tested = omega (arith, c.steps.invariant.tested, c.in-Some.ensures.tested, some);
      charged = charged_here g tried;
      spent = went_on tree k c.args.last c.steps.index (c.in-Some.first - 1)
          (node c.unwrap_or-node.result.now) u w (node c.args.lowest.now) c.steps.tests
          c.level_at.new.tests c.args.tests.now e c.steps.invariant.state.within
          (sym c.in-Some.ensures.finds.levels ∙ level_count-child k c.in-Some.first some child)
          (fixed_on (fixed_length k c.steps.index) (run_length k c.steps.index)
          (above_length k c.in-Some.first) (fixed_length k (c.in-Some.first - 1))
          c.in-Some.ensures.finds.fixed (above_length-child k c.in-Some.first some child))
          up
          c.in-Some.ensures.bounded c.steps.invariant.spent;
    }

pub returns-in-Descendant : goal.returns-in-Descendant
returns-in-Descendant g c =
    let node = g.E.Candidate.node in
    let tree = g.E.Candidate.tree in
    let k = g.P.Parts.combinator_at c.args.parts.now in
    let meets = g.E.Candidate.Meets c.args.parts.now in
    let tried = (goal.at.returns-in-Descendant g c).After-level_at in
    let u = option_map_or node c.steps.top (node c.args.lowest.now) in
    let w = node c.in-Some-parent_element.above in
    let e = node_is g tried in
    let some = some_of c.in-Some.first c.if-first-eq0.false in
    record {
      finds = stretch_continues tree k meets c.args.last c.steps.index c.in-Some.first
          (node c.args.lowest.now) u w c.steps.invariant.state
          (subst (Level tree k meets c.in-Some.first c.steps.index) e c.in-Some.ensures.finds)
          some
          (descendant_of c.combinator-combinator.result (k c.in-Some.first)
          c.combinator-combinator.ensures (c.in-Some.ensures.finds.up some) c.in-Descendant.is)
          (next_at tree.parent (node c.unwrap_or-node.result.now) u (Some w) e
          c.in-Some-parent_element.ensures);
      tested = omega (arith, c.steps.invariant.tested, c.in-Some.ensures.tested, some);
      inner = charged_here g tried;
      bounded = bounded_here g tried;
    }

pub returns-in_default-clause-tested : goal.returns-in_default-clause-tested
returns-in_default-clause-tested g c =
    omega (arith, c.steps.invariant.tested, c.steps.invariant.state.within, c.in_default.ensures.tested)

pub returns-then-first-eq0-clause-tested : goal.returns-then-first-eq0-clause-tested
returns-then-first-eq0-clause-tested g c =
    omega (arith, c.steps.invariant.tested, c.in-Some.ensures.tested, c.if-first-eq0.true)

pub returns-in_default-parent_element-clause-tested :
    goal.returns-in_default-parent_element-clause-tested
returns-in_default-parent_element-clause-tested g c =
    omega (
      arith,
      c.steps.invariant.tested,
      c.steps.invariant.state.within,
      c.in-Some.ensures.tested,
      c.in-Some.ensures.finds.within,
    )

pub returns-in_default-clause-inner : goal.returns-in_default-clause-inner
returns-in_default-clause-inner g c =
    charged_here g (goal.at.returns-in_default-clause-inner g c).After-level_at

pub returns-then-first-eq0-clause-inner : goal.returns-then-first-eq0-clause-inner
returns-then-first-eq0-clause-inner g c =
    charged_here g (goal.at.returns-then-first-eq0-clause-inner g c).After-level_at

pub returns-in_default-parent_element-clause-inner : goal.returns-in_default-parent_element-clause-inner
returns-in_default-parent_element-clause-inner g c =
    charged_here g (goal.at.returns-in_default-parent_element-clause-inner g c).After-level_at
