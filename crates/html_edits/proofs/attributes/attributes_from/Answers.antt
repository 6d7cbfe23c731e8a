use Rattle.std.proofs.Common.{◌≡◌, ◌++◌, ◌∷◌, [], List, map, sym, ap, subst, ℕ, ◌∙◌}
use Rattle.std.proofs.lemmas.List.{map-append}
use Rattle.css_text.proofs.reading.EachLemmas.{Done, done_step, done_end, took, each-none, each-some}
use Rattle.css_html.specs.Attributes.{PlacedAttribute, next_attribute}
use Rattle.css_html.specs.Views.{attribute_of}
use Rattle.css_html.proofs.Placed.{next_attribute-takes}
use Rattle.html_edits.proofs.attributes.attributes_from.Goals as goal

pub attributes-smaller : goal.attributes-smaller
attributes-smaller c =
    took next_attribute next_attribute-takes c.attributes.rest.now c.in-Some.attribute.rest.now
    (attribute_of c.in-Some.attribute) c.in-Some.ensures

pub attributes-preserved : goal.attributes-preserved
attributes-preserved c =
    let a : PlacedAttribute = attribute_of c.in-Some.attribute in
    let step : Done next_attribute (map attribute_of c.attributes.found.items ++ a ∷ [])
    c.in-Some.attribute.rest.now c.args.bytes.now =
    done_step next_attribute (map attribute_of c.attributes.found.items) c.attributes.rest.now
    c.args.bytes.now c.in-Some.attribute.rest.now a
    (each-some next_attribute next_attribute-takes c.attributes.rest.now
    c.in-Some.attribute.rest.now a c.in-Some.ensures)
    c.attributes.invariant in
    let same : map attribute_of c.push.new.self.items ≡ map attribute_of c.attributes.found.items ++ a ∷ [] =
    ap (map attribute_of) c.in_ok-push.ensures.items
    ∙ map-append attribute_of c.attributes.found.items (c.in-Some.attribute ∷ []) in
    subst (λ (front : List PlacedAttribute). Done next_attribute front c.in-Some.attribute.rest.now
    c.args.bytes.now) (sym same) step

pub returns : goal.returns
returns c =
    sym (ap (λ (r : List PlacedAttribute × List ℕ). r.0)
    (done_end next_attribute (map attribute_of c.attributes.found.items) c.attributes.rest.now
    c.args.bytes.now (each-none next_attribute c.attributes.rest.now c.in_default.ensures)
    c.attributes.invariant))
