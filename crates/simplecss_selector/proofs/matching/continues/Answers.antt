use Rattle.std.proofs.Common.{◌+◌, ◌*◌, length, refl, sym, arith, inl, inr}
use Rattle.std.proofs.lemmas.Bool.{false≢true}
use Rattle.simplecss_selector.specs.Placements.{longest_stretch}
use Rattle.simplecss_selector.specs.internal.PlacementSearch.IsAtOrAbove.{here}
use Rattle.simplecss_selector.proofs.Depths.{depth-below}
use Rattle.simplecss_selector.proofs.Greedy.{placement_of, first_rest, misfit_up, misfit_top, rest_up, alone_fails}
use Rattle.simplecss_selector.proofs.StretchEnds.{AreStretchEnds-last, AreStretchEnds-before, begun-after, before-within}
use Rattle.simplecss_selector.proofs.LongestStretch.{spent_once, spent_first, spent_more, spent_last}
use Rattle.simplecss_selector.proofs.SearchSteps.{tested_more, placed_once, placed_first, placed_same, placed_more, placed_last}
use Rattle.simplecss_selector.proofs.matching.continues.Goals as goal

pub climb-requires-clause-stretch : goal.climb-requires-clause-stretch
climb-requires-clause-stretch g c =
    AreStretchEnds-last c.args.selector.now c.as_slice-ends.result.now
    (length c.as_slice-ends.result.now) _ _
    (rw (← c.selector.view_is, c.as_slice-ends.ensures.value) c.selector.invariant.stretches) refl
    c.begin_after-first.ensures c.requires.last

pub returns-in-Mismatch-clause-answer : goal.returns-in-Mismatch-clause-answer
returns-in-Mismatch-clause-answer g c =
    let p = placement_of g.E.Element.tree c.args.selector.now (c.args.last + 1)
    (g.E.Element.node c.args.element.now) c.requires.last in (
      λ e. absurd (false≢true e),
      λ h. elim c.in-Mismatch.is [
        | inl e ↦ absurd ((rw e at c.climb.ensures.finds) (p.0 h))
        | inr e ↦ absurd ((rw e at c.climb.ensures.finds) _ (λ a q. q) (p.0 h))
      ],
    )

pub returns-in-Complete-clause-answer : goal.returns-in-Complete-clause-answer
returns-in-Complete-clause-answer g c =
    let p = placement_of g.E.Element.tree c.args.selector.now (c.args.last + 1) _ c.requires.last in
    (λ t. p.1 c.in-Complete.ensures.finds, λ h. refl)

pub loop-candidate-init : goal.loop-candidate-init
loop-candidate-init g c =
    let f = c.in-Continues.ensures.finds in
    let tree = g.E.Element.tree in
    let node = g.E.Element.node in
    let stretch = AreStretchEnds-before c.args.selector.now c.as_slice-ends.result.now
    (length c.as_slice-ends.result.now) c.begin_after-first.result _ _
    (rw (← c.selector.view_is, c.as_slice-ends.ensures.value) c.selector.invariant.stretches)
    (omega arith) c.begin_after-first.ensures f.some c.stretch_at-stretch.ensures.first
    c.stretch_at-stretch.ensures.last in
    record {
      numbered = stretch.0;
      begun = c.stretch_at-stretch.ensures.first;
      is_stretch = stretch.1;
      same = rw stretch.2 (first_rest g.E.Element.tree c.args.selector.now
          (c.args.last + 1) _ _ _ c.requires.last f);
      spent = spent_first (longest_stretch c.args.selector.now)
          (tree.depth (node c.in-Continues.above)) (tree.depth (node c.args.element.now))
          c.args.tests.now c.climb.new.tests f.higher c.in-Continues.ensures.bounded;
      placed =
          placed_first c.args.tests.now c.args.last c.climb.new.tests c.begin_after-first.result
          (c.stretch_at-stretch.result.last + 1) c.in-Continues.ensures.placed stretch.2;
      tested = c.in-Continues.ensures.tested;
    }

pub returns-in-NoNodeLeft-clause-answer : goal.returns-in-NoNodeLeft-clause-answer
returns-in-NoNodeLeft-clause-answer g c = (
  λ e. absurd (false≢true e),
  λ h. absurd (alone_fails g.E.Element.tree c.args.selector.now (c.loop-candidate.stretch.last + 1)
      _ c.in-NoNodeLeft.ensures.finds (c.loop-candidate.invariant.same.0 h)),
)

pub returns-in-Complete-place_stretch-clause-answer :
    goal.returns-in-Complete-place_stretch-clause-answer
returns-in-Complete-place_stretch-clause-answer g c = (
  λ t. c.loop-candidate.invariant.same.1 (_, here, c.in-Complete-place_stretch.ensures.finds),
  λ h. refl,
)

pub loop-candidate-preserved-in-Some : goal.loop-candidate-preserved-in-Some
loop-candidate-preserved-in-Some g c =
    let tree = g.E.Element.tree in
    let node = g.E.Element.node in
    let i = c.loop-candidate.invariant in
    let up = misfit_up tree c.args.selector.now (c.loop-candidate.stretch.last + 1) _ _
    (sym c.in-Some.ensures) c.in-Mismatch-place_stretch.ensures.finds in
    record {
      numbered = i.numbered;
      begun = i.begun;
      is_stretch = i.is_stretch;
      same = (λ h. up.0 (i.same.0 h), λ h. i.same.1 (up.1 h));
      spent = spent_more (longest_stretch c.args.selector.now) (tree.depth (node c.in-Some.parent))
          (tree.depth (node c.loop-candidate.candidate)) c.args.tests.now c.loop-candidate.tests
          c.place_stretch.new.tests
          (longest_stretch c.args.selector.now * (tree.depth (node c.args.element.now) + 1))
          (depth-below tree g.met.E.Element.depth_law _ _ (sym c.in-Some.ensures)) i.spent
          c.in-Mismatch-place_stretch.ensures.bounded;
      placed =
          placed_same c.args.tests.now c.args.last c.loop-candidate.tests c.place_stretch.new.tests
          (c.loop-candidate.stretch.last + 1) i.placed c.in-Mismatch-place_stretch.ensures.tested;
      tested = tested_more c.args.tests.now c.loop-candidate.tests c.place_stretch.new.tests
          i.tested c.in-Mismatch-place_stretch.ensures.tested;
    }

pub loop-candidate-preserved : goal.loop-candidate-preserved
loop-candidate-preserved g c =
    let tree = g.E.Element.tree in
    let node = g.E.Element.node in
    let i = c.loop-candidate.invariant in
    let f = c.in-Continues-place_stretch.ensures.finds in
    let up = rest_up tree c.args.selector.now
    (c.loop-candidate.stretch.last + 1) c.loop-candidate.stretch.first _ _ f in
    let stretch = AreStretchEnds-before c.args.selector.now c.as_slice-ends.result.now
    c.loop-candidate.number c.loop-candidate.stretch.first _ _
    (rw (← c.selector.view_is, c.as_slice-ends.ensures.value) c.selector.invariant.stretches)
    (omega (arith, i.numbered)) i.begun f.some
    c.stretch_at-stretch-in-Continues-place_stretch.ensures.first
    c.stretch_at-stretch-in-Continues-place_stretch.ensures.last in
    record {
      numbered = stretch.0;
      begun = c.stretch_at-stretch-in-Continues-place_stretch.ensures.first;
      is_stretch = stretch.1;
      same = rw stretch.2 (λ h. up.0 (i.same.0 h), λ h. i.same.1 (up.1 h));
      spent = spent_more (longest_stretch c.args.selector.now)
          (tree.depth (node c.in-Continues-place_stretch.above))
          (tree.depth (node c.loop-candidate.candidate)) c.args.tests.now c.loop-candidate.tests
          c.place_stretch.new.tests
          (longest_stretch c.args.selector.now * (tree.depth (node c.args.element.now) + 1))
          f.higher i.spent c.in-Continues-place_stretch.ensures.bounded;
      placed = placed_more c.args.tests.now c.args.last c.loop-candidate.tests
          c.loop-candidate.stretch.last c.place_stretch.new.tests c.loop-candidate.stretch.first
          (c.stretch_at-stretch-in-Continues-place_stretch.result.last + 1) i.placed
          c.in-Continues-place_stretch.ensures.placed stretch.2;
      tested = tested_more c.args.tests.now c.loop-candidate.tests c.place_stretch.new.tests
          i.tested c.in-Continues-place_stretch.ensures.tested;
    }

pub returns-in-None-clause-answer : goal.returns-in-None-clause-answer
returns-in-None-clause-answer g c = (
  λ e. absurd (false≢true e),
  λ h. absurd (misfit_top g.E.Element.tree c.args.selector.now (c.loop-candidate.stretch.last + 1) _
      (sym c.in-None.ensures) c.in-Mismatch-place_stretch.ensures.finds
      (c.loop-candidate.invariant.same.0 h)),
)

pub returns-in-Mismatch-clause-tested : goal.returns-in-Mismatch-clause-tested
returns-in-Mismatch-clause-tested g c = c.climb.ensures.tested

pub returns-in-Mismatch-clause-all_when_true : goal.returns-in-Mismatch-clause-all_when_true
returns-in-Mismatch-clause-all_when_true g c = λ e. absurd (false≢true e)

pub returns-in-Mismatch-clause-bounded : goal.returns-in-Mismatch-clause-bounded
returns-in-Mismatch-clause-bounded g c =
    spent_once (longest_stretch c.args.selector.now)
    (g.E.Element.tree.depth (g.E.Element.node c.args.element.now)) c.args.tests.now
    c.climb.new.tests c.climb.ensures.bounded

pub returns-in-Complete-clause-tested : goal.returns-in-Complete-clause-tested
returns-in-Complete-clause-tested g c = c.in-Complete.ensures.tested

pub returns-in-Complete-clause-all_when_true : goal.returns-in-Complete-clause-all_when_true
returns-in-Complete-clause-all_when_true g c =
    λ e. placed_once c.args.tests.now c.args.last c.climb.new.tests c.in-Complete.ensures.placed

pub returns-in-Complete-clause-bounded : goal.returns-in-Complete-clause-bounded
returns-in-Complete-clause-bounded g c =
    spent_once (longest_stretch c.args.selector.now)
    (g.E.Element.tree.depth (g.E.Element.node c.args.element.now)) c.args.tests.now
    c.climb.new.tests c.in-Complete.ensures.bounded

pub returns-in-NoNodeLeft-clause-tested : goal.returns-in-NoNodeLeft-clause-tested
returns-in-NoNodeLeft-clause-tested g c = tested_more c.args.tests.now c.loop-candidate.tests
    c.place_stretch.new.tests c.loop-candidate.invariant.tested c.in-NoNodeLeft.ensures.tested

pub returns-in-NoNodeLeft-clause-all_when_true : goal.returns-in-NoNodeLeft-clause-all_when_true
returns-in-NoNodeLeft-clause-all_when_true g c = λ e. absurd (false≢true e)

pub returns-in-NoNodeLeft-clause-bounded : goal.returns-in-NoNodeLeft-clause-bounded
returns-in-NoNodeLeft-clause-bounded g c =
    spent_last (longest_stretch c.args.selector.now)
    (g.E.Element.tree.depth (g.E.Element.node c.loop-candidate.candidate)) c.args.tests.now
    c.loop-candidate.tests c.place_stretch.new.tests
    (longest_stretch c.args.selector.now
    * (g.E.Element.tree.depth (g.E.Element.node c.args.element.now) + 1))
    c.loop-candidate.invariant.spent c.in-NoNodeLeft.ensures.bounded

pub returns-in-Complete-place_stretch-clause-tested :
    goal.returns-in-Complete-place_stretch-clause-tested
returns-in-Complete-place_stretch-clause-tested g c =
    tested_more c.args.tests.now c.loop-candidate.tests c.place_stretch.new.tests
    c.loop-candidate.invariant.tested c.in-Complete-place_stretch.ensures.tested

pub returns-in-Complete-place_stretch-clause-all_when_true :
    goal.returns-in-Complete-place_stretch-clause-all_when_true
returns-in-Complete-place_stretch-clause-all_when_true g c = λ e. placed_last c.args.tests.now
    c.args.last c.loop-candidate.tests c.loop-candidate.stretch.last c.place_stretch.new.tests
    c.loop-candidate.invariant.placed c.in-Complete-place_stretch.ensures.placed

pub returns-in-Complete-place_stretch-clause-bounded :
    goal.returns-in-Complete-place_stretch-clause-bounded
returns-in-Complete-place_stretch-clause-bounded g c =
    spent_last (longest_stretch c.args.selector.now)
    (g.E.Element.tree.depth (g.E.Element.node c.loop-candidate.candidate)) c.args.tests.now
    c.loop-candidate.tests c.place_stretch.new.tests
    (longest_stretch c.args.selector.now
    * (g.E.Element.tree.depth (g.E.Element.node c.args.element.now) + 1))
    c.loop-candidate.invariant.spent c.in-Complete-place_stretch.ensures.bounded

pub returns-in-None-clause-tested : goal.returns-in-None-clause-tested
returns-in-None-clause-tested g c =
    tested_more c.args.tests.now c.loop-candidate.tests c.place_stretch.new.tests
    c.loop-candidate.invariant.tested c.in-Mismatch-place_stretch.ensures.tested

pub returns-in-None-clause-all_when_true : goal.returns-in-None-clause-all_when_true
returns-in-None-clause-all_when_true g c = λ e. absurd (false≢true e)

pub returns-in-None-clause-bounded : goal.returns-in-None-clause-bounded
returns-in-None-clause-bounded g c =
    spent_last (longest_stretch c.args.selector.now)
    (g.E.Element.tree.depth (g.E.Element.node c.loop-candidate.candidate)) c.args.tests.now
    c.loop-candidate.tests c.place_stretch.new.tests
    (longest_stretch c.args.selector.now
    * (g.E.Element.tree.depth (g.E.Element.node c.args.element.now) + 1))
    c.loop-candidate.invariant.spent c.in-Mismatch-place_stretch.ensures.bounded

pub loop-candidate-smaller-in-Some : goal.loop-candidate-smaller-in-Some
loop-candidate-smaller-in-Some g c =
    depth-below g.E.Element.tree g.met.E.Element.depth_law _ _ (sym c.in-Some.ensures)

pub loop-candidate-smaller : goal.loop-candidate-smaller
loop-candidate-smaller g c = c.in-Continues-place_stretch.ensures.finds.higher

pub overflow_sub-number : goal.overflow_sub-number
overflow_sub-number g c =
    (begun-after c.as_slice-ends.result.now (length c.as_slice-ends.result.now)
    c.begin_after-first.result c.begin_after-first.ensures c.in-Continues.ensures.finds.some).0

pub stretch_at-stretch-requires : goal.stretch_at-stretch-requires
stretch_at-stretch-requires g c =
    let before = before-within c.as_slice-ends.result.now
    (length c.as_slice-ends.result.now) c.begin_after-first.result
    (omega arith) c.begin_after-first.ensures c.in-Continues.ensures.finds.some in
    record { within = before.0; some = before.1 }

pub overflow_sub-number-in-Continues-place_stretch :
    goal.overflow_sub-number-in-Continues-place_stretch
overflow_sub-number-in-Continues-place_stretch g c =
    (begun-after c.as_slice-ends.result.now c.loop-candidate.number c.loop-candidate.stretch.first
    c.loop-candidate.invariant.begun c.in-Continues-place_stretch.ensures.finds.some).0

pub stretch_at-stretch-requires-in-Continues-place_stretch :
    goal.stretch_at-stretch-requires-in-Continues-place_stretch
stretch_at-stretch-requires-in-Continues-place_stretch g c =
    let before = before-within c.as_slice-ends.result.now c.loop-candidate.number
    c.loop-candidate.stretch.first (omega (arith, c.loop-candidate.invariant.numbered))
    c.loop-candidate.invariant.begun c.in-Continues-place_stretch.ensures.finds.some in
    record { within = before.0; some = before.1 }
