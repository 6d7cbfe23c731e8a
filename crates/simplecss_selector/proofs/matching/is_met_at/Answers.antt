use Rattle.std.proofs.Common.{length, refl}
use Rattle.std.proofs.lemmas.Bool.{false≢true}
use Rattle.simplecss_selector.specs.Placements.{Holds}
use Rattle.simplecss_selector.specs.Shapes.{component_at}
use Rattle.simplecss_selector.specs.internal.SelectorViews.{subselector_of}
use Rattle.simplecss_selector.proofs.Meeting.{whole_step, whole_fails, whole_holds, fewer_left, not_named}
use Rattle.simplecss_selector.proofs.matching.is_met_at.Goals as goal

pub returns-then-not-holds-clause-answer : goal.returns-then-not-holds-clause-answer
returns-then-not-holds-clause-answer g c = (
  λ e. absurd (false≢true e),
  λ m. absurd (whole_fails (Holds g.E.Element.tree (g.E.Element.node c.args.element.now))
      subselector_of _ c.loop-subselector.subselector-index _ c.loop-subselector-test.true
      c.loop-subselector.invariant (λ p. false≢true (c.if-not-holds.ensures.1 p)) m),
)

pub loop-subselector-preserved : goal.loop-subselector-preserved
loop-subselector-preserved g c =
    whole_step (Holds g.E.Element.tree (g.E.Element.node c.args.element.now)) subselector_of _
    c.loop-subselector.subselector-index _ c.loop-subselector-test.true c.loop-subselector.invariant
    (c.if-not-holds.ensures.0 refl)

pub component-requires : goal.component-requires
component-requires g c = c.requires

pub returns-then-not-has_local_name-clause-answer : goal.returns-then-not-has_local_name-clause-answer
returns-then-not-has_local_name-clause-answer g c =
    not_named g.E.Element.tree
    (g.E.Element.node c.args.element.now) c.component.result.0 c.component.result.1.now
    (component_at c.args.selector.now c.args.index) c.in-Some.name c.has_local_name.result
    c.component.ensures c.in-Some.is c.has_local_name.ensures c.if-not-has_local_name.true

pub loop-subselector-smaller : goal.loop-subselector-smaller
loop-subselector-smaller g c = fewer_left (length c.component.result.1.now)
    c.loop-subselector.subselector-index c.loop-subselector-test.true

pub returns-clause-answer : goal.returns-clause-answer
returns-clause-answer g c =
    whole_holds (Holds g.E.Element.tree (g.E.Element.node c.args.element.now)) subselector_of
    c.component.result.1.now c.loop-subselector.subselector-index c.loop-subselector-test.false
    c.loop-subselector.invariant
