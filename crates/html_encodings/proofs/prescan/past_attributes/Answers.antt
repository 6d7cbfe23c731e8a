use Rattle.std.proofs.Common.{◌∙◌, sym, ap, List, ℕ}
use Rattle.css_text.specs.Bytes.{past}
use Rattle.css_html.specs.Marks.{is_between}
use Rattle.css_html.specs.Attributes.{PlacedAttribute, next_attribute, past_attributes}
use Rattle.css_html.specs.Views.{attribute_of}
use Rattle.css_text.proofs.reading.EachLemmas.{took, each-none, each-some}
use Rattle.css_html.proofs.Placed.{next_attribute-takes}
use Rattle.html_encodings.proofs.prescan.past_attributes.Goals as goal

pub attributes-smaller : goal.attributes-smaller
attributes-smaller c =
    took next_attribute next_attribute-takes c.attributes.rest.now c.in-Some.attribute.rest.now
    (attribute_of c.in-Some.attribute) c.in-Some.ensures

pub attributes-preserved : goal.attributes-preserved
attributes-preserved c =
    sym (ap (λ (r : List PlacedAttribute × List ℕ). r.1)
    (each-some next_attribute next_attribute-takes c.attributes.rest.now
    c.in-Some.attribute.rest.now (attribute_of c.in-Some.attribute) c.in-Some.ensures))
    ∙ c.attributes.invariant

pub returns : goal.returns
unfolding past_attributes
returns c =
    c.past_between.ensures
    ∙ ap (past is_between)
    (sym (ap (λ (r : List PlacedAttribute × List ℕ). r.1)
    (each-none next_attribute c.attributes.rest.now c.in_default.ensures)) ∙ c.attributes.invariant)
