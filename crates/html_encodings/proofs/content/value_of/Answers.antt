use Rattle.std.proofs.Common.{◌∙◌, sym, ap, ℕ, List, Option}
use Rattle.std.specs.Borrow.{Bor}
use Rattle.std.specs.Option.{option_map}
use Rattle.css_html.specs.Attributes.{next_attribute}
use Rattle.css_html.specs.Views.{attribute_of}
use Rattle.css_text.proofs.reading.EachLemmas.{took}
use Rattle.css_html.proofs.Placed.{next_attribute-takes}
use Rattle.html_encodings.proofs.Named.{value-found, value-passed, value-none}
use Rattle.html_encodings.proofs.content.value_of.Goals as goal

pub attributes-smaller : goal.attributes-smaller
attributes-smaller c =
    took next_attribute next_attribute-takes c.attributes.rest.now c.in-Some.attribute.rest.now
    (attribute_of c.in-Some.attribute) c.in-Some.ensures

pub attributes-preserved : goal.attributes-preserved
attributes-preserved c =
    sym (value-passed c.args.name.now c.attributes.rest.now c.in-Some.attribute.rest.now
    (attribute_of c.in-Some.attribute) c.in-Some.ensures
    (c.value_named.ensures
    ∙ ap (λ (o : Option (Bor (List ℕ))). option_map (λ v. v.now) o) c.in_default-value_named.is))
    ∙ c.attributes.invariant

pub returns-in-Some-value_named : goal.returns-in-Some-value_named
returns-in-Some-value_named c =
    sym c.attributes.invariant
    ∙ value-found c.args.name.now c.attributes.rest.now c.in-Some.attribute.rest.now
    c.in-Some-value_named.value.now (attribute_of c.in-Some.attribute) c.in-Some.ensures
    (c.value_named.ensures
    ∙ ap (λ (o : Option (Bor (List ℕ))). option_map (λ v. v.now) o) c.in-Some-value_named.is)

pub returns : goal.returns
returns c =
    sym c.attributes.invariant
    ∙ value-none c.args.name.now c.attributes.rest.now c.in_default.ensures
