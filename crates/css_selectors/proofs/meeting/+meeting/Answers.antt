use Rattle.std.proofs.Common.{◌<◌, length, map, sym, ◌∙◌, ap, refl, arith}
use Rattle.std.proofs.lemmas.Bool.{false≢true}
use Rattle.css_selectors.specs.Meanings.{MatchesAny}
use Rattle.css_selector_text.specs.Components.{selectors_from}
use Rattle.css_selector_text.specs.Views.{complex_of}
use Rattle.css_selectors.proofs.PartLemmas.{part_count-from, part_answered, part_charged, lone_answered, lone_charged, more_charged, met_not, met_listed, charged_not, charged_listed, met_tested, any_here, any_step, list_step}
use Rattle.css_selectors.proofs.meeting.+meeting.Goals as goal

pub is_placed-matches-returns : goal.is_placed-matches-returns
is_placed-matches-returns g t c =
    let d = g.E.Element.document in
    let on = ap g.E.Element.node c.element.ensures in
    record {
      answer = part_answered d c.captures.parts.now c.args.index c.index-parts-index.result c.as_slice.result.now _ _
          c.are_met.result c.requires c.as_slice.ensures.value on c.are_met.ensures.answer;
      bounded = part_charged d c.captures.parts.now c.args.index c.index-parts-index.result c.as_slice.result.now _ _
          _ _ c.requires c.as_slice.ensures.value on c.are_met.ensures.bounded;
      counts = c.are_met.ensures.counts;
    }

pub is_met-returns-in-Not-clause-answer : goal.is_met-returns-in-Not-clause-answer
is_met-returns-in-Not-clause-answer g t c =
    met_not g.E.Element.document c.args.condition.now c.in-Not.selectors c.as_slice.result.now _
    c.matches_any.result c.in-Not.is c.as_slice.ensures.value c.matches_any.ensures.answer

pub is_met-returns-in-Is-clause-answer : goal.is_met-returns-in-Is-clause-answer
is_met-returns-in-Is-clause-answer g t c =
    met_listed g.E.Element.document c.args.condition.now c.in-Is.selectors c.as_slice-in-Is.result.now _
    c.matches_any-in-Is.result c.in-Is.is c.as_slice-in-Is.ensures.value c.matches_any-in-Is.ensures.answer

pub is_placed-returns-clause-answer : goal.is_placed-returns-clause-answer
is_placed-returns-clause-answer g t c = rw (part_count-from c.args.parts.now) c.matches.ensures.answer

pub is_placed-returns-clause-bounded : goal.is_placed-returns-clause-bounded
is_placed-returns-clause-bounded g t c = rw (part_count-from c.args.parts.now) c.matches.ensures.bounded

pub matches_any-returns-then-is_matched-clause-answer :
    goal.matches_any-returns-then-is_matched-clause-answer
matches_any-returns-then-is_matched-clause-answer g t c =
    let d = g.E.Element.document in
    let n = g.E.Element.node c.args.element.now in
    let lt : c.loop-selector.selector-index < length c.args.selectors.now = omega arith in (
      λ e. c.loop-selector.invariant.same.0 (any_here d c.args.selectors.now c.loop-selector.selector-index
          c.selector-item.result c.as_slice.result.now n lt c.selector-item.is c.as_slice.ensures.value
          (c.if-is_matched.ensures.answer.0 refl)),
      λ h. refl,
    )

pub matches_any-loop-selector-preserved : goal.matches_any-loop-selector-preserved
matches_any-loop-selector-preserved g t c =
    let d = g.E.Element.document in
    let n = g.E.Element.node c.args.element.now in
    let i = c.loop-selector.selector-index in
    let lt : c.loop-selector.selector-index < length c.args.selectors.now = omega arith in
    let step = list_step d c.args.selectors.now c.loop-selector.selector-index
    c.selector-item.result c.as_slice.result.now n lt c.selector-item.is c.as_slice.ensures.value in
    record {
      same = any_step d c.args.selectors.now c.loop-selector.selector-index
          c.selector-item.result c.as_slice.result.now n lt c.selector-item.is c.as_slice.ensures.value
          (MatchesAny d (selectors_from (map complex_of c.args.selectors.now)) n)
          (λ m. false≢true (c.if-is_matched.ensures.answer.1 m)) c.loop-selector.invariant.same;
      kept = omega (arith, c.is_matched.ensures.counts, c.loop-selector.invariant.kept);
      spent = omega (arith, step, c.is_matched.ensures.bounded, c.loop-selector.invariant.spent);
    }

pub is_met-returns-in-Not-clause-bounded : goal.is_met-returns-in-Not-clause-bounded
is_met-returns-in-Not-clause-bounded g t c =
    charged_not g.E.Element.document c.args.condition.now c.in-Not.selectors c.as_slice.result.now _
    _ _ c.in-Not.is c.as_slice.ensures.value c.matches_any.ensures.bounded

pub is_met-returns-in-Is-clause-bounded : goal.is_met-returns-in-Is-clause-bounded
is_met-returns-in-Is-clause-bounded g t c =
    charged_listed g.E.Element.document c.args.condition.now c.in-Is.selectors c.as_slice-in-Is.result.now _
    _ _ c.in-Is.is c.as_slice-in-Is.ensures.value c.matches_any-in-Is.ensures.bounded

pub is_matched-returns-then-parts-eq1 : goal.is_matched-returns-then-parts-eq1
is_matched-returns-then-parts-eq1 g t c =
    let d = g.E.Element.document in
    let n = g.E.Element.node c.args.element.now in
    record {
      answer = lone_answered d c.args.parts.now c.index-parts-0.result c.as_slice.result.now n
          c.are_met.result c.if-parts-eq1.true c.as_slice.ensures.value c.are_met.ensures.answer;
      bounded = lone_charged d c.args.parts.now c.index-parts-0.result c.as_slice.result.now n _ _
          c.if-parts-eq1.true c.as_slice.ensures.value c.are_met.ensures.bounded;
      counts = c.are_met.ensures.counts;
    }

pub is_matched-returns-clause-bounded : goal.is_matched-returns-clause-bounded
is_matched-returns-clause-bounded g t c =
    more_charged g.E.Element.document c.args.parts.now (g.E.Element.node c.args.element.now) _ _
    (sym c.is_empty.ensures ∙ c.if-is_empty.false)
    c.if-parts-eq1.false c.is_placed.ensures.bounded

pub is_met-returns-in-Tested-clause-answer : goal.is_met-returns-in-Tested-clause-answer
is_met-returns-in-Tested-clause-answer g t c =
    met_tested g.E.Element.document c.args.condition.now c.in-Tested.field-0 c.in-Tested.field-1
    (g.E.Element.node c.args.element.now) c.in-Tested.is
