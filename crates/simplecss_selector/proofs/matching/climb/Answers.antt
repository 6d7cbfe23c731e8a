use Rattle.std.proofs.Common.{◌≡◌, ℕ, ◌<◌, ◌≤◌, ◌+◌, ◌-◌, IsTrue, None, Some, refl, arith}
use Rattle.simplecss_selector.specs.Placements.{Relates, is_step}
use Rattle.std.proofs.lemmas.Bool.{false≢true}
use Rattle.std.specs.Option.{option_map_or}
use Rattle.simplecss_selector.specs.internal.CombinatorViews.{combinator_of}
use Rattle.simplecss_selector.specs.Shapes.{component_at}
use Rattle.simplecss_selector.proofs.Depths.{depth-above, depth-step}
use Rattle.simplecss_selector.proofs.Greedy.{tracks_step, not_met, no_node, no_rest, leaves_rest, stepped, no_step}
use Rattle.simplecss_selector.proofs.StretchEnds.{IsStretch-step, IsStretch-gap}
use Rattle.simplecss_selector.proofs.LongestStretch.{stretch_tests-bound, AreJoined-more}
use Rattle.css_matching.proofs.Steps.{borrowed}
use Rattle.simplecss_selector.proofs.SearchSteps.{step_at, step_not, parent_at}
use Rattle.simplecss_selector.proofs.matching.climb.Given.{Over}
use Rattle.simplecss_selector.proofs.matching.climb.Goals.{In-Some, After-unwrap_or-node-2}
use Rattle.simplecss_selector.proofs.matching.climb.Goals as goal

above_zero : (a b : ℕ) → a < b → 0 < b
above_zero a b h = omega arith

at_one_less : (a b : ℕ) → a < b → a ≤ b - 1
at_one_less a b h = omega arith

one_less : (a b : ℕ) → a ≤ b → a - 1 ≤ b
one_less a b h = omega arith

one_less_more : (a : ℕ) → 0 < a → a - 1 + 1 ≡ a
one_less_more a h = omega arith

stays_within : (a b n : ℕ) → a ≤ b → b < n → a < n
stays_within a b n h k = omega arith

one_less_within : (a b n : ℕ) → a ≤ b → b < n → a - 1 < n
one_less_within a b n h k = omega arith

below_next : (a b : ℕ) → a ≤ b → a < b + 1
below_next a b h = omega arith

no_greater : (a b d : ℕ) → a ≤ b → b ≤ d → a ≤ d
no_greater a b d h k = omega arith

at_first : (index first : ℕ) → index ≤ first → first ≤ index → index ≡ first
at_first index first h k = omega arith

-- one test more, one component further up
one_more_counted : (begun last now index after : ℕ) → 0 < index → now + index ≡ begun + last
    → after ≡ now + 1 → after + (index - 1) ≡ begun + last
one_more_counted begun last now index after some counted one = omega arith

tested : (begun last now index : ℕ) → index ≤ last → now + index ≡ begun + last → begun ≤ now
tested begun last now index h counted = omega arith

all_placed : (begun last now index first : ℕ) → index ≤ first → now + index ≡ begun + last
    → begun + last < now + 1 + first
all_placed begun last now index first h counted = omega arith

-- the node before is a step from the one that is placed
step_here : (g : Over) (c : In-Some g)
    → let d = (component_at c.args.selector.now c.steps.index).combinator in
    IsTrue (is_step d)
    × Relates g.E.Element.tree d (g.E.Element.node c.in-Some.before)
    (option_map_or g.E.Element.node c.steps.top (g.E.Element.node c.args.lowest.now))
step_here g c =
    let tree = g.E.Element.tree in
    let node = g.E.Element.node in
    let d = (component_at c.args.selector.now c.steps.index).combinator in
    let index = borrowed node c.as_ref.result c.steps.top c.args.lowest c.unwrap_or-node.result
    c.as_ref.ensures.value c.unwrap_or-node.ensures in
    stepped tree d (option_map_or node c.steps.top (node c.args.lowest.now))
    (node c.in-Some.before)
    (step_at tree (combinator_of c.combinator.result) d (node c.unwrap_or-node.result.now)
    (option_map_or node c.steps.top (node c.args.lowest.now)) (Some (node c.in-Some.before))
    c.combinator.ensures.value index c.in-Some.ensures)

-- what the node is from which the search goes up
top_is : (g : Over) (c : After-unwrap_or-node-2 g)
    → g.E.Element.node c.unwrap_or-node-2.result.now
    ≡ option_map_or g.E.Element.node c.steps.top (g.E.Element.node c.args.lowest.now)
top_is g c =
    borrowed g.E.Element.node c.as_ref-2.result c.steps.top c.args.lowest c.unwrap_or-node-2.result
    c.as_ref-2.ensures.value c.unwrap_or-node-2.ensures

pub returns-in_default-clause-finds : goal.returns-in_default-clause-finds
returns-in_default-clause-finds g c =
    let tree = g.E.Element.tree in
    let node = g.E.Element.node in
    let cs = c.args.selector.now in
    let i = c.steps.invariant in
    let index = borrowed node c.as_ref.result c.steps.top c.args.lowest c.unwrap_or-node.result
    c.as_ref.ensures.value c.unwrap_or-node.ensures in
    let joined = IsStretch-step cs c.args.stretch.first c.args.stretch.last c.steps.index
    (combinator_of c.combinator.result) c.requires.stretch c.steps-test.true i.within_stretch
    c.combinator.ensures.value c.combinator.ensures.first.0 in
    let step =
    step_at tree (combinator_of c.combinator.result) (component_at cs c.steps.index).combinator
    (node c.unwrap_or-node.result.now) (option_map_or node c.steps.top (node c.args.lowest.now))
    None c.combinator.ensures.value index c.in_default.ensures in
    no_node tree cs (c.args.stretch.last + 1) c.steps.index (node c.args.lowest.now)
    (option_map_or node c.steps.top (node c.args.lowest.now)) (above_zero _ _ c.steps-test.true)
    (stays_within _ _ _ i.within_stretch c.requires.stretch.within) (no_step tree (component_at cs
    c.steps.index).combinator (option_map_or node c.steps.top (node c.args.lowest.now))
    (step_not (component_at cs c.steps.index).combinator joined) step) i.tracks

pub returns-in_default-clause-bounded : goal.returns-in_default-clause-bounded
returns-in_default-clause-bounded g c =
    let i = c.steps.invariant in
    stretch_tests-bound c.args.selector.now c.steps.index c.args.stretch.last _ _ i.within_stretch
    c.requires.stretch.within i.joined i.counted

pub returns-then-not-is_met_at-clause-finds : goal.returns-then-not-is_met_at-clause-finds
returns-then-not-is_met_at-clause-finds g c =
    let tree = g.E.Element.tree in
    let node = g.E.Element.node in
    let cs = c.args.selector.now in
    let i = c.steps.invariant in
    let some : 0 < c.steps.index = above_zero _ _ c.steps-test.true in
    let step = step_here g (goal.at.returns-then-not-is_met_at-clause-finds g c).In-Some in
    not_met tree cs (c.args.stretch.last + 1) (c.steps.index - 1) (node c.args.lowest.now)
    (node c.in-Some.before) (one_less_within _ _ _ i.within_stretch c.requires.stretch.within)
    (λ m. false≢true (c.if-not-is_met_at.ensures.answer.1 m))
    (tracks_step tree cs g.met.E.Element.sibling_law (c.args.stretch.last + 1) c.steps.index
    (c.steps.index - 1 + 1) (node c.args.lowest.now) (option_map_or node c.steps.top
    (node c.args.lowest.now)) (node c.in-Some.before) some (stays_within _ _ _ i.within_stretch
    c.requires.stretch.within) (one_less_more _ some) step.0 i.met step.1 i.tracks)

pub returns-then-not-is_met_at-clause-bounded : goal.returns-then-not-is_met_at-clause-bounded
returns-then-not-is_met_at-clause-bounded g c =
    let cs = c.args.selector.now in
    let i = c.steps.invariant in
    let some : 0 < c.steps.index = above_zero _ _ c.steps-test.true in
    let joined = IsStretch-step cs c.args.stretch.first c.args.stretch.last c.steps.index
    (combinator_of c.combinator.result) c.requires.stretch c.steps-test.true i.within_stretch
    c.combinator.ensures.value c.combinator.ensures.first.0 in
    stretch_tests-bound cs (c.steps.index - 1) c.args.stretch.last _ _
    (one_less _ _ i.within_stretch) c.requires.stretch.within
    (AreJoined-more cs c.steps.index (c.steps.index - 1 + 1) (c.args.stretch.last + 1)
    (one_less_more _ some) joined i.joined)
    (one_more_counted _ _ _ _ _ some i.counted c.is_met_at.ensures.counted)

pub steps-preserved : goal.steps-preserved
steps-preserved g c =
    let tree = g.E.Element.tree in
    let node = g.E.Element.node in
    let cs = c.args.selector.now in
    let i = c.steps.invariant in
    let some : 0 < c.steps.index = above_zero _ _ c.steps-test.true in
    let step = step_here g (goal.at.steps-preserved g c).In-Some in
    record {
      from_stretch = at_one_less _ _ c.steps-test.true;
      within_stretch = one_less _ _ i.within_stretch;
      tracks = tracks_step tree cs g.met.E.Element.sibling_law
          (c.args.stretch.last + 1) c.steps.index (c.steps.index - 1 + 1) (node c.args.lowest.now)
          (option_map_or node c.steps.top (node c.args.lowest.now)) (node c.in-Some.before) some
          (stays_within _ _ _ i.within_stretch c.requires.stretch.within)
          (one_less_more _ some) step.0 i.met step.1 i.tracks;
      met = c.if-not-is_met_at.ensures.answer.0 refl;
      joined = AreJoined-more cs c.steps.index (c.steps.index - 1 + 1) (c.args.stretch.last + 1)
          (one_less_more _ some) step.0 i.joined;
      no_deeper = no_greater _ _ _ (depth-step tree g.met.E.Element.depth_law
          g.met.E.Element.sibling_law (component_at cs c.steps.index).combinator (option_map_or node
          c.steps.top (node c.args.lowest.now)) (node c.in-Some.before) step.0 step.1) i.no_deeper;
      counted = one_more_counted _ _ _ _ _ some i.counted c.is_met_at.ensures.counted;
    }

pub returns-then-stretch-eq0-clause-bounded : goal.returns-then-stretch-eq0-clause-bounded
returns-then-stretch-eq0-clause-bounded g c =
    let i = c.steps.invariant in
    stretch_tests-bound c.args.selector.now c.steps.index c.args.stretch.last _ _ i.within_stretch
    c.requires.stretch.within i.joined i.counted

pub returns-in-Some-parent_element-clause-bounded :
    goal.returns-in-Some-parent_element-clause-bounded
returns-in-Some-parent_element-clause-bounded g c =
    let i = c.steps.invariant in
    stretch_tests-bound c.args.selector.now c.steps.index c.args.stretch.last _ _ i.within_stretch
    c.requires.stretch.within i.joined i.counted

pub returns-clause-bounded : goal.returns-clause-bounded
returns-clause-bounded g c =
    let i = c.steps.invariant in
    stretch_tests-bound c.args.selector.now c.steps.index c.args.stretch.last _ _ i.within_stretch
    c.requires.stretch.within i.joined i.counted

pub returns-in-Some-parent_element-clause-finds : goal.returns-in-Some-parent_element-clause-finds
returns-in-Some-parent_element-clause-finds g c =
    let tree = g.E.Element.tree in
    let node = g.E.Element.node in
    let cs = c.args.selector.now in
    let i = c.steps.invariant in
    let index = top_is g (goal.at.returns-in-Some-parent_element-clause-finds g c).After-unwrap_or-node-2 in
    let parent = parent_at tree (node c.unwrap_or-node-2.result.now)
    (option_map_or node c.steps.top (node c.args.lowest.now))
    (Some (node c.in-Some-parent_element.above)) index c.in-Some-parent_element.ensures in
    let first : c.steps.index ≡ c.args.stretch.first =
    at_first _ _ c.steps-test.false i.from_stretch in
    let some : 0 < c.steps.index = omega (arith, c.if-stretch-eq0.false) in
    let gap = rw (← first) at (IsStretch-gap cs c.args.stretch.first c.args.stretch.last
    c.requires.stretch (omega (arith, c.if-stretch-eq0.false))) in
    rw (← first)
    (leaves_rest tree cs (c.args.stretch.last + 1) c.steps.index (node c.args.lowest.now)
    (option_map_or node c.steps.top (node c.args.lowest.now))
    (node c.in-Some-parent_element.above) some (below_next _ _ i.within_stretch)
    (stays_within _ _ _ i.within_stretch c.requires.stretch.within) gap i.met parent
    (depth-above tree g.met.E.Element.depth_law (node c.args.lowest.now)
    (option_map_or node c.steps.top (node c.args.lowest.now))
    (node c.in-Some-parent_element.above) parent i.no_deeper) i.tracks)

pub returns-clause-finds : goal.returns-clause-finds
returns-clause-finds g c =
    let tree = g.E.Element.tree in
    let node = g.E.Element.node in
    let cs = c.args.selector.now in
    let i = c.steps.invariant in
    let index = top_is g (goal.at.returns-clause-finds g c).After-unwrap_or-node-2 in
    let parent = parent_at tree (node c.unwrap_or-node-2.result.now)
    (option_map_or node c.steps.top (node c.args.lowest.now)) None index c.in-None.ensures in
    let first : c.steps.index ≡ c.args.stretch.first =
    at_first _ _ c.steps-test.false i.from_stretch in
    let some : 0 < c.steps.index = omega (arith, c.if-stretch-eq0.false) in
    let gap = rw (← first) at (IsStretch-gap cs c.args.stretch.first c.args.stretch.last
    c.requires.stretch (omega (arith, c.if-stretch-eq0.false))) in
    no_rest tree cs (c.args.stretch.last + 1) c.steps.index (node c.args.lowest.now)
    (option_map_or node c.steps.top (node c.args.lowest.now)) some
    (stays_within _ _ _ i.within_stretch c.requires.stretch.within) gap parent i.tracks

pub returns-in_default-clause-tested : goal.returns-in_default-clause-tested
returns-in_default-clause-tested g c =
    tested _ _ _ _ c.steps.invariant.within_stretch c.steps.invariant.counted

pub returns-then-stretch-eq0-clause-tested : goal.returns-then-stretch-eq0-clause-tested
returns-then-stretch-eq0-clause-tested g c =
    tested _ _ _ _ c.steps.invariant.within_stretch c.steps.invariant.counted

pub returns-in-Some-parent_element-clause-tested : goal.returns-in-Some-parent_element-clause-tested
returns-in-Some-parent_element-clause-tested g c =
    tested _ _ _ _ c.steps.invariant.within_stretch c.steps.invariant.counted

pub returns-clause-tested : goal.returns-clause-tested
returns-clause-tested g c =
    tested _ _ _ _ c.steps.invariant.within_stretch c.steps.invariant.counted

pub returns-in-Some-parent_element-clause-placed : goal.returns-in-Some-parent_element-clause-placed
returns-in-Some-parent_element-clause-placed g c =
    all_placed _ _ _ _ _ c.steps-test.false c.steps.invariant.counted
