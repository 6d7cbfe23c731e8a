use Rattle.std.proofs.Common.{arith}
use Rattle.css_selectors.specs.ElementViews.{namespaced_attribute_of}
use Rattle.css_selectors.specs.Meanings.{accepts, is_spaced}
use Rattle.css_selector_text.specs.Views.{local_of}
use Rattle.css_selectors.proofs.SpacedLemmas.{is_within, is_found, is_passed, none_found}
use Rattle.css_selectors.proofs.meeting.has_spaced.Goals as goal

pub returns-then-is_spaced : goal.returns-then-is_spaced
returns-then-is_spaced g c =
    is_found (is_spaced c.args.number c.args.name.now (accepts (local_of c.args.local.now)))
    (g.E.Element.document.namespaced_attributes (g.E.Element.node c.args.element.now)) c.attributes.index
    (namespaced_attribute_of c.in-Some.attribute) c.is_spaced.result c.in-Some.ensures.answer c.is_spaced.ensures
    c.if-is_spaced.true c.attributes.invariant.1

pub overflow_add-index : goal.overflow_add-index
overflow_add-index g c =
    omega (
      arith,
      is_within (is_spaced c.args.number c.args.name.now (accepts (local_of c.args.local.now)))
          (g.E.Element.document.namespaced_attributes (g.E.Element.node c.args.element.now)) c.attributes.index
          (namespaced_attribute_of c.in-Some.attribute) c.in-Some.ensures.answer,
      c.in-Some.ensures.few,
    )

pub attributes-smaller : goal.attributes-smaller
attributes-smaller g c =
    omega (
      arith,
      is_within (is_spaced c.args.number c.args.name.now (accepts (local_of c.args.local.now)))
          (g.E.Element.document.namespaced_attributes (g.E.Element.node c.args.element.now)) c.attributes.index
          (namespaced_attribute_of c.in-Some.attribute) c.in-Some.ensures.answer,
    )

pub attributes-preserved : goal.attributes-preserved
attributes-preserved g c =
    is_passed (is_spaced c.args.number c.args.name.now (accepts (local_of c.args.local.now)))
    (g.E.Element.document.namespaced_attributes (g.E.Element.node c.args.element.now)) c.attributes.index
    (namespaced_attribute_of c.in-Some.attribute) c.is_spaced.result c.in-Some.ensures.answer c.is_spaced.ensures
    c.if-is_spaced.false c.attributes.invariant.1

pub returns : goal.returns
returns g c =
    none_found (is_spaced c.args.number c.args.name.now (accepts (local_of c.args.local.now)))
    (g.E.Element.document.namespaced_attributes (g.E.Element.node c.args.element.now)) c.attributes.index
    c.in_default.ensures.answer c.attributes.invariant.1
