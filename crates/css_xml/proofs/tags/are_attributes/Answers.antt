use Rattle.std.proofs.Common.{◌≡◌, ◌∙◌, sym, ap, refl, true, false, arith}
use Rattle.std.proofs.lemmas.Grind.{common_steps}
use Rattle.css_text.proofs.reading.EachLemmas.{took}
use Rattle.css_html.specs.Attributes.{next_attribute}
use Rattle.css_html.specs.Views.{attribute_of}
use Rattle.css_html.proofs.Placed.{next_attribute-takes}
use Rattle.css_xml.specs.Tags.{is_whole, is_tail}
use Rattle.css_xml.proofs.Tagged.{parted-step, parted-end}
use Rattle.css_xml.proofs.tags.are_attributes.Goals as goal

pub attributes-smaller : goal.attributes-smaller
attributes-smaller c =
    took next_attribute next_attribute-takes c.attributes.last.now c.in-Some.attribute.rest.now
    (attribute_of c.in-Some.attribute) c.in-Some.ensures

pub attributes-preserved : goal.attributes-preserved
attributes-preserved c =
    let whole : is_whole c.attributes.last.now (attribute_of c.in-Some.attribute) ≡ true =
    grind (arith, common_steps) in
    sym (parted-step c.attributes.last.now c.in-Some.attribute.rest.now c.args.end.now
    (attribute_of c.in-Some.attribute) true c.in-Some.ensures refl whole)
    ∙ c.attributes.invariant

pub returns-then-not-is_whole : goal.returns-then-not-is_whole
returns-then-not-is_whole c =
    let whole : is_whole c.attributes.last.now (attribute_of c.in-Some.attribute) ≡ false =
    grind (arith, common_steps) in
    sym (parted-step c.attributes.last.now c.in-Some.attribute.rest.now c.args.end.now
    (attribute_of c.in-Some.attribute) false c.in-Some.ensures refl whole)
    ∙ c.attributes.invariant

pub returns : goal.returns
returns c =
    c.is_tail.ensures
    ∙ ap is_tail c.text_between.ensures
    ∙ sym (parted-end c.attributes.last.now c.args.end.now c.in_default.ensures)
    ∙ c.attributes.invariant
