use Rattle.std.proofs.Common.{ℕ, suc, ◌<◌, ◌≤◌, ◌+◌, ◌*◌, refl, sym, arith, add-one}
use Rattle.std.proofs.Math.Nat.{mul-le-mul_left}
use Rattle.std.proofs.lemmas.Bool.{false≢true}
use Rattle.css_matching.specs.declared.Combinator.{Combinator}
use Rattle.css_matching.specs.Trees.{Tree, Counts}
use Rattle.css_matching.specs.Placements.{IsBeyond}
use Rattle.css_matching.specs.Placements.IsBeyond.{is_next}
use Rattle.css_matching.specs.internal.Search.IsAlong.{here}
use Rattle.css_matching.specs.Bounds.{longest_free, longest_fixed, fixed_length, level_count, most_levels, width}
use Rattle.css_matching.proofs.Placing.{placement_is}
use Rattle.css_matching.proofs.Steps.{beyond_less, search_begun, search_goes, search_misfit, search_none, stretch_fails, tested_stretch}
use Rattle.css_matching.proofs.Charging.{charged_more, above_cheaper, higher_cheaper}
use Rattle.css_matching.proofs.Counting.{total, total-le, total-some, total-beyond, width-below, level_count-bound, longest_free-below, fixed_length-bound, search_once, search_last}
use Rattle.css_matching.proofs.matching.search.Goals as goal

up_to : (a b : ℕ) → a < b → a ≤ b
up_to a b h = omega (arith, h)

same : (a : ℕ) → a ≤ a
same a = omega arith

-- one more stretch, up to part `low` at `c`, after which the search is at `v`
spent_on : {Node : Type 0} (tree : Tree Node) (k : ℕ → Combinator) → Counts tree.parent tree.depth
    → (last low : ℕ) (c v : Node) (now after begun X : ℕ) → low ≤ last → IsBeyond tree.parent v c
    → after ≤ now + fixed_length k low + longest_free k low * width tree (level_count k low) c
    → now + longest_fixed k last * (tree.depth c + 1)
    + longest_free k last * total tree (most_levels k last) (suc (tree.depth c)) c ≤ begun + X
    → after + longest_fixed k last * (tree.depth v + 1)
    + longest_free k last * total tree (most_levels k last) (suc (tree.depth v)) v ≤ begun + X
spent_on tree k law last low c v now after begun X le b spent before =
    search_once (longest_fixed k last) (longest_free k last) (longest_free k low)
    (fixed_length k low) (width tree (level_count k low) c)
    (width tree (most_levels k last) c)
    (total tree (most_levels k last) (suc (tree.depth v)) v)
    (total tree (most_levels k last) (suc (tree.depth c)) c) (tree.depth v) (tree.depth c) now after
    begun X (longest_free-below k low last le) (fixed_length-bound k low last le)
    (beyond_less tree.parent tree.depth law v c b)
    (width-below tree c (level_count k low) (most_levels k last) (level_count-bound k low last le))
    (total-beyond tree law (most_levels k last) c v b) spent before

-- one last stretch
spent_last : {Node : Type 0} (tree : Tree Node) (k : ℕ → Combinator) → Counts tree.parent tree.depth
    → (last low : ℕ) (c n : Node) (now after begun : ℕ) → low ≤ last
    → after ≤ now + fixed_length k low + longest_free k low * width tree (level_count k low) c
    → now + longest_fixed k last * (tree.depth c + 1)
    + longest_free k last * total tree (most_levels k last) (suc (tree.depth c)) c
    ≤ begun + longest_fixed k last * (tree.depth n + 1)
    + longest_free k last * total tree (most_levels k last) (suc (tree.depth n)) n
    → after ≤ begun + longest_fixed k last * (tree.depth n + 1) + longest_free k last
    * (most_levels k last * width tree (tree.depth n + 1) n)
spent_last tree k law last low c n now after begun le spent before =
    let s = search_last (longest_fixed k last) (longest_free k last) (longest_free k low)
    (fixed_length k low) (width tree (level_count k low) c) (width tree (most_levels k last) c)
    (total tree (most_levels k last) (suc (tree.depth c)) c) (tree.depth c) now after
    (begun + longest_fixed k last * (tree.depth n + 1))
    (longest_free k last * total tree (most_levels k last) (suc (tree.depth n)) n)
    (longest_free-below k low last le) (fixed_length-bound k low last le)
    (width-below tree c (level_count k low) (most_levels k last) (level_count-bound k low last le))
    (total-some tree (most_levels k last) (tree.depth c) c) spent before in
    let t = mul-le-mul_left (longest_free k last) (total-le tree law (most_levels k last) n) in
    rw add-one (omega (arith, s, t))

pub returns-in-Mismatch-clause-answer : goal.returns-in-Mismatch-clause-answer
returns-in-Mismatch-clause-answer g c =
    let tree = g.E.Candidate.tree in
    let k = g.P.Parts.combinator_at c.args.parts.now in
    let meets = g.E.Candidate.Meets c.args.parts.now in
    let n = g.E.Candidate.node c.args.element.now in (
      λ e. absurd (false≢true e),
      λ h. absurd (stretch_fails tree k meets g.E.Candidate.node c.args.last n c.stretch_at.result
          c.stretch_at.ensures.finds c.in-Mismatch.is
          ((placement_is tree k meets c.args.last n).0 h)),
    )

pub returns-in-Mismatch-clause-bounded : goal.returns-in-Mismatch-clause-bounded
returns-in-Mismatch-clause-bounded g c =
    spent_last g.E.Candidate.tree (g.P.Parts.combinator_at c.args.parts.now)
    g.met.E.Candidate.depth_law c.args.last c.args.last (g.E.Candidate.node c.args.element.now)
    (g.E.Candidate.node c.args.element.now) c.args.tests.now c.stretch_at.new.tests c.args.tests.now
    (same c.args.last) c.stretch_at.ensures.bounded (same _)

pub returns-in-Complete-clause-answer : goal.returns-in-Complete-clause-answer
returns-in-Complete-clause-answer g c =
    let tree = g.E.Candidate.tree in
    let k = g.P.Parts.combinator_at c.args.parts.now in
    let meets = g.E.Candidate.Meets c.args.parts.now in
    let n = g.E.Candidate.node c.args.element.now in (
      λ e. (placement_is tree k meets c.args.last n).1 c.in-Complete.ensures.finds,
      λ h. refl,
    )

pub returns-in-Complete-clause-bounded : goal.returns-in-Complete-clause-bounded
returns-in-Complete-clause-bounded g c =
    spent_last g.E.Candidate.tree (g.P.Parts.combinator_at c.args.parts.now)
    g.met.E.Candidate.depth_law c.args.last c.args.last (g.E.Candidate.node c.args.element.now)
    (g.E.Candidate.node c.args.element.now) c.args.tests.now c.stretch_at.new.tests c.args.tests.now
    (same c.args.last) c.in-Complete.ensures.bounded (same _)

pub loop-candidate-init : goal.loop-candidate-init
loop-candidate-init g c =
    let tree = g.E.Candidate.tree in
    let k = g.P.Parts.combinator_at c.args.parts.now in
    let n = g.E.Candidate.node c.args.element.now in
    let v = g.E.Candidate.node c.in-Continues.above in
    let f = c.in-Continues.ensures.finds in
    record {
      state = search_begun tree k (g.E.Candidate.Meets c.args.parts.now) c.args.last
          c.in-Continues.rest n v f;
      tested = c.in-Continues.ensures.tested;
      charged = c.in-Continues.ensures.inner;
      cheaper = above_cheaper tree (g.E.Candidate.cost c.args.parts.now) (g.met.E.Candidate.cost_law c.args.parts.now) v n f.beyond;
      spent = spent_on tree k g.met.E.Candidate.depth_law c.args.last c.args.last n v
          c.args.tests.now c.stretch_at.new.tests (c.args.tests.now + longest_fixed k c.args.last * (tree.depth n + 1))
          (longest_free k c.args.last
          * total tree (most_levels k c.args.last) (suc (tree.depth n)) n)
          (same c.args.last) f.beyond c.in-Continues.ensures.bounded (same _);
    }

pub returns-in-NoNode-clause-answer : goal.returns-in-NoNode-clause-answer
returns-in-NoNode-clause-answer g c =
    let tree = g.E.Candidate.tree in
    let k = g.P.Parts.combinator_at c.args.parts.now in
    let meets = g.E.Candidate.Meets c.args.parts.now in
    let n = g.E.Candidate.node c.args.element.now in (
      λ e. absurd (false≢true e),
      λ h. absurd (c.in-NoNode.ensures.finds (c.loop-candidate.invariant.state.onward
          ((placement_is tree k meets c.args.last n).0 h))),
    )

pub returns-in-NoNode-clause-bounded : goal.returns-in-NoNode-clause-bounded
returns-in-NoNode-clause-bounded g c =
    let i = c.loop-candidate.invariant in
    spent_last g.E.Candidate.tree (g.P.Parts.combinator_at c.args.parts.now)
    g.met.E.Candidate.depth_law c.args.last c.loop-candidate.low
    (g.E.Candidate.node c.loop-candidate.candidate) (g.E.Candidate.node c.args.element.now)
    c.loop-candidate.tests c.stretch_at-in-loop-candidate.new.tests c.args.tests.now
    (up_to _ _ i.state.fewer) c.in-NoNode.ensures.bounded i.spent

pub returns-in-Complete-stretch_at-clause-answer : goal.returns-in-Complete-stretch_at-clause-answer
returns-in-Complete-stretch_at-clause-answer g c =
    let tree = g.E.Candidate.tree in
    let k = g.P.Parts.combinator_at c.args.parts.now in
    let meets = g.E.Candidate.Meets c.args.parts.now in
    let n = g.E.Candidate.node c.args.element.now in (
      λ e. (placement_is tree k meets c.args.last n).1 (c.loop-candidate.invariant.state.back (
        g.E.Candidate.node c.loop-candidate.candidate,
        here,
        c.in-Complete-stretch_at.ensures.finds,
      )),
      λ h. refl,
    )

pub returns-in-Complete-stretch_at-clause-bounded :
    goal.returns-in-Complete-stretch_at-clause-bounded
returns-in-Complete-stretch_at-clause-bounded g c =
    let i = c.loop-candidate.invariant in
    spent_last g.E.Candidate.tree (g.P.Parts.combinator_at c.args.parts.now)
    g.met.E.Candidate.depth_law c.args.last c.loop-candidate.low
    (g.E.Candidate.node c.loop-candidate.candidate) (g.E.Candidate.node c.args.element.now)
    c.loop-candidate.tests c.stretch_at-in-loop-candidate.new.tests c.args.tests.now
    (up_to _ _ i.state.fewer) c.in-Complete-stretch_at.ensures.bounded i.spent

pub returns-in-None-clause-answer : goal.returns-in-None-clause-answer
returns-in-None-clause-answer g c =
    let tree = g.E.Candidate.tree in
    let k = g.P.Parts.combinator_at c.args.parts.now in
    let meets = g.E.Candidate.Meets c.args.parts.now in
    let n = g.E.Candidate.node c.args.element.now in (
      λ e. absurd (false≢true e),
      λ h. absurd (search_none tree k meets c.args.last c.loop-candidate.low n
          (g.E.Candidate.node c.loop-candidate.candidate) c.loop-candidate.invariant.state
          c.in-Mismatch-stretch_at.ensures.finds (sym c.in-None.ensures)
          ((placement_is tree k meets c.args.last n).0 h)),
    )

pub returns-in-None-clause-bounded : goal.returns-in-None-clause-bounded
returns-in-None-clause-bounded g c =
    let i = c.loop-candidate.invariant in
    spent_last g.E.Candidate.tree (g.P.Parts.combinator_at c.args.parts.now)
    g.met.E.Candidate.depth_law c.args.last c.loop-candidate.low
    (g.E.Candidate.node c.loop-candidate.candidate) (g.E.Candidate.node c.args.element.now)
    c.loop-candidate.tests c.stretch_at-in-loop-candidate.new.tests c.args.tests.now
    (up_to _ _ i.state.fewer) c.in-Mismatch-stretch_at.ensures.bounded i.spent

pub loop-candidate-preserved-in-Some : goal.loop-candidate-preserved-in-Some
loop-candidate-preserved-in-Some g c =
    let tree = g.E.Candidate.tree in
    let k = g.P.Parts.combinator_at c.args.parts.now in
    let i = c.loop-candidate.invariant in
    let n = g.E.Candidate.node c.args.element.now in
    let v = g.E.Candidate.node c.loop-candidate.candidate in
    let w = g.E.Candidate.node c.in-Some.above in
    record {
      state = search_misfit tree k (g.E.Candidate.Meets c.args.parts.now) c.args.last
          c.loop-candidate.low n v w i.state c.in-Mismatch-stretch_at.ensures.finds
          (sym c.in-Some.ensures);
      tested = omega (arith, i.tested, c.in-Mismatch-stretch_at.ensures.tested);
      charged = charged_more (g.E.Candidate.cost c.args.parts.now (g.E.Candidate.node c.args.element.now))
          (g.E.Candidate.cost c.args.parts.now (g.E.Candidate.node c.loop-candidate.candidate))
          c.args.tests.now c.args.total.now c.loop-candidate.tests c.loop-candidate.total
          c.stretch_at-in-loop-candidate.new.tests c.stretch_at-in-loop-candidate.new.total
          c.loop-candidate.invariant.cheaper c.loop-candidate.invariant.charged c.stretch_at-in-loop-candidate.ensures.inner;
      cheaper = higher_cheaper tree (g.E.Candidate.cost c.args.parts.now) (g.met.E.Candidate.cost_law c.args.parts.now) w v n (is_next (sym c.in-Some.ensures)) i.cheaper;
      spent = spent_on tree k g.met.E.Candidate.depth_law c.args.last c.loop-candidate.low v w
          c.loop-candidate.tests c.stretch_at-in-loop-candidate.new.tests (c.args.tests.now + longest_fixed k c.args.last * (tree.depth n + 1))
          (longest_free k c.args.last
          * total tree (most_levels k c.args.last) (suc (tree.depth n)) n)
          (up_to _ _ i.state.fewer) (is_next (sym c.in-Some.ensures))
          c.in-Mismatch-stretch_at.ensures.bounded i.spent;
    }

pub loop-candidate-smaller : goal.loop-candidate-smaller
loop-candidate-smaller g c =
    beyond_less g.E.Candidate.tree.parent g.E.Candidate.tree.depth g.met.E.Candidate.depth_law
    (g.E.Candidate.node c.in-Continues-stretch_at.above)
    (g.E.Candidate.node c.loop-candidate.candidate) c.in-Continues-stretch_at.ensures.finds.beyond

pub loop-candidate-preserved : goal.loop-candidate-preserved
loop-candidate-preserved g c =
    let tree = g.E.Candidate.tree in
    let k = g.P.Parts.combinator_at c.args.parts.now in
    let i = c.loop-candidate.invariant in
    let f = c.in-Continues-stretch_at.ensures.finds in
    let n = g.E.Candidate.node c.args.element.now in
    let v = g.E.Candidate.node c.loop-candidate.candidate in
    let w = g.E.Candidate.node c.in-Continues-stretch_at.above in
    record {
      state = search_goes tree k (g.E.Candidate.Meets c.args.parts.now) c.args.last
          c.loop-candidate.low c.in-Continues-stretch_at.rest n v w i.state f;
      tested = omega (arith, i.tested, c.in-Continues-stretch_at.ensures.tested);
      charged = charged_more (g.E.Candidate.cost c.args.parts.now (g.E.Candidate.node c.args.element.now))
          (g.E.Candidate.cost c.args.parts.now (g.E.Candidate.node c.loop-candidate.candidate))
          c.args.tests.now c.args.total.now c.loop-candidate.tests c.loop-candidate.total
          c.stretch_at-in-loop-candidate.new.tests c.stretch_at-in-loop-candidate.new.total
          c.loop-candidate.invariant.cheaper c.loop-candidate.invariant.charged c.stretch_at-in-loop-candidate.ensures.inner;
      cheaper = higher_cheaper tree (g.E.Candidate.cost c.args.parts.now) (g.met.E.Candidate.cost_law c.args.parts.now) w v n (f.beyond) i.cheaper;
      spent = spent_on tree k g.met.E.Candidate.depth_law c.args.last c.loop-candidate.low v w
          c.loop-candidate.tests c.stretch_at-in-loop-candidate.new.tests (c.args.tests.now + longest_fixed k c.args.last * (tree.depth n + 1))
          (longest_free k c.args.last
          * total tree (most_levels k c.args.last) (suc (tree.depth n)) n)
          (up_to _ _ i.state.fewer) f.beyond c.in-Continues-stretch_at.ensures.bounded i.spent;
    }

pub returns-in-Mismatch-clause-at_least_one : goal.returns-in-Mismatch-clause-at_least_one
returns-in-Mismatch-clause-at_least_one g c =
    tested_stretch c.args.tests.now c.stretch_at.new.tests c.args.last c.stretch_at.result
    c.stretch_at.ensures.tested c.in-Mismatch.is

pub returns-in-Complete-clause-at_least_one : goal.returns-in-Complete-clause-at_least_one
returns-in-Complete-clause-at_least_one g c = omega (arith, c.in-Complete.ensures.tested)

pub returns-in-Complete-clause-all_when_true : goal.returns-in-Complete-clause-all_when_true
returns-in-Complete-clause-all_when_true g c = λ e. c.in-Complete.ensures.tested

pub returns-in-NoNode-clause-at_least_one :
    goal.returns-in-NoNode-clause-at_least_one
returns-in-NoNode-clause-at_least_one g c =
    let i = c.loop-candidate.invariant in
    omega (arith, i.tested, i.state.fewer, c.in-NoNode.ensures.tested)

pub returns-in-Complete-stretch_at-clause-at_least_one :
    goal.returns-in-Complete-stretch_at-clause-at_least_one
returns-in-Complete-stretch_at-clause-at_least_one g c =
    let i = c.loop-candidate.invariant in
    omega (arith, i.tested, i.state.fewer, c.in-Complete-stretch_at.ensures.tested)

pub returns-in-None-clause-at_least_one :
    goal.returns-in-None-clause-at_least_one
returns-in-None-clause-at_least_one g c =
    let i = c.loop-candidate.invariant in
    omega (arith, i.tested, i.state.fewer, c.in-Mismatch-stretch_at.ensures.tested)

pub returns-in-Complete-stretch_at-clause-all_when_true :
    goal.returns-in-Complete-stretch_at-clause-all_when_true
returns-in-Complete-stretch_at-clause-all_when_true g c =
    let i = c.loop-candidate.invariant in
    λ e. omega (arith, i.tested, c.in-Complete-stretch_at.ensures.tested)

pub returns-in-NoNode-clause-inner : goal.returns-in-NoNode-clause-inner
returns-in-NoNode-clause-inner g c =
    charged_more (g.E.Candidate.cost c.args.parts.now (g.E.Candidate.node c.args.element.now))
    (g.E.Candidate.cost c.args.parts.now (g.E.Candidate.node c.loop-candidate.candidate))
    c.args.tests.now c.args.total.now c.loop-candidate.tests c.loop-candidate.total
    c.stretch_at-in-loop-candidate.new.tests c.stretch_at-in-loop-candidate.new.total
    c.loop-candidate.invariant.cheaper c.loop-candidate.invariant.charged c.stretch_at-in-loop-candidate.ensures.inner

pub returns-in-Complete-stretch_at-clause-inner : goal.returns-in-Complete-stretch_at-clause-inner
returns-in-Complete-stretch_at-clause-inner g c =
    charged_more (g.E.Candidate.cost c.args.parts.now (g.E.Candidate.node c.args.element.now))
    (g.E.Candidate.cost c.args.parts.now (g.E.Candidate.node c.loop-candidate.candidate))
    c.args.tests.now c.args.total.now c.loop-candidate.tests c.loop-candidate.total
    c.stretch_at-in-loop-candidate.new.tests c.stretch_at-in-loop-candidate.new.total
    c.loop-candidate.invariant.cheaper c.loop-candidate.invariant.charged c.stretch_at-in-loop-candidate.ensures.inner

pub returns-in-None-clause-inner : goal.returns-in-None-clause-inner
returns-in-None-clause-inner g c =
    charged_more (g.E.Candidate.cost c.args.parts.now (g.E.Candidate.node c.args.element.now))
    (g.E.Candidate.cost c.args.parts.now (g.E.Candidate.node c.loop-candidate.candidate))
    c.args.tests.now c.args.total.now c.loop-candidate.tests c.loop-candidate.total
    c.stretch_at-in-loop-candidate.new.tests c.stretch_at-in-loop-candidate.new.total
    c.loop-candidate.invariant.cheaper c.loop-candidate.invariant.charged c.stretch_at-in-loop-candidate.ensures.inner
