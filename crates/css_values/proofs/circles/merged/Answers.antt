use Rattle.std.proofs.Common.{◌∙◌, ◌<◌, ◌≤◌, ◌∷◌, [], arith, sym, subst}
use Rattle.css_values.specs.internal.Paths.{IsMerging, IsPath, circle_of, circles_of, place_of, slot_at, weights}
use Rattle.css_values.proofs.MergeLemmas.{merging-more, merging-ends, merging-none}
use Rattle.css_values.proofs.circles.merged.Goals as goal

pub circles-init : goal.circles-init
circles-init c = λ limit properties all begun other most at m. m

pub circles-preserved : goal.circles-preserved
circles-preserved c = λ limit properties all begun other most at m.
    let late : place_of (slot_at all other) < c.circles.top.start = omega (arith, at, c.circles-test.true) in
    merging-more limit properties all begun other most (circle_of c.circles.top)
    (circle_of c.in-Some.lower) _ (circles_of c.take_last.new.path.items)
    (subst (IsMerging limit properties all begun other most (circle_of c.circles.top))
    c.in-Some.ensures.parts (c.circles.invariant limit properties all begun other most at m))
    late c.in_ok-top-in-Some.ensures

pub returns-in-None : goal.returns-in-None
returns-in-None c = λ limit properties all begun other most at m.
    let top = circle_of c.circles.top in
    let last : IsMerging limit properties all begun other most top [] =
    subst (IsMerging limit properties all begun other most top)
    (c.in-None.ensures.parts ∙ c.in-None.ensures.ends)
    (c.circles.invariant limit properties all begun other most at m) in
    subst (λ cs. IsPath limit properties all begun (top ∷ cs) × (weights (top ∷ cs) < most))
    (sym c.in-None.ensures.ends)
    (merging-ends limit properties all begun other most top [] last
    (merging-none limit properties all begun other most top last))

pub returns : goal.returns
returns c = λ limit properties all begun other most at m.
    let early : c.circles.top.start ≤ place_of (slot_at all other) = omega (arith, at, c.circles-test.false) in
    merging-ends limit properties all begun other most (circle_of c.circles.top)
    (circles_of c.circles.path.items)
    (c.circles.invariant limit properties all begun other most at m) early
