use Rattle.std.proofs.Common.{[], ◌++◌, ◌∷◌, map, take, get_or, sym, subst, rules, arith}
use Rattle.std.specs.Global.{Vec}
use Rattle.std.proofs.lemmas.List.{map_more, take_all}
use Rattle.css_selectors.specs.declared.element.NamespacedAttribute.{NamespacedAttribute}
use Rattle.call_answers.specs.declared.elements.PlacedAttribute.{PlacedAttribute}
use Rattle.call_answers.specs.internal.Attributes.{placed_attribute_of}
use Rattle.call_answers.proofs.SpacedAttributes.{GivenSoFar, given-none, given-more, given-same, given-all, in-none, not-there}
use Rattle.page_calls.proofs.attributes.attributes_of_each.Goals.{then-placed-count+then-placed-gt0+in_ok-push, else-placed-count, else-placed-count-via-then-placed-count+else-placed-gt0, else-placed-count-via-else-placed-count}
use Rattle.page_calls.proofs.attributes.attributes_of_each.Goals as goal

pub loop-placed-init : goal.loop-placed-init
loop-placed-init c = given-none c.args.count c.in_ok-found.found.items c.in_ok-found.ensures

pub index_mut-requires : goal.index_mut-requires
index_mut-requires c =
    let all = c.loop-placed.invariant.all in
    let less = c.if-placed-count.true in
    let same = c.loop-placed.found.ok.0 in
    omega (arith, all, less, same)

-- what is placed by an index that no attribute has
abbrev no-attribute : PlacedAttribute
no-attribute = record {
  element = 0;
  attribute = record {
    namespace = 0;
    name = record { ref_ptr = (0, 0); now = [] };
    value = record { ref_ptr = (0, 0); now = [] };
  };
}

pub loop-placed-preserved : goal.loop-placed-preserved
loop-placed-preserved c =
    let index = c.loop-placed.placed-index in
    let placed = map placed_attribute_of (take index c.args.attributes.now) in
    let one : PlacedAttribute = get_or c.args.attributes.now index no-attribute in
    let before = c.loop-placed.invariant in
    subst (λ placed. GivenSoFar placed c.args.count c.if-placed-count.found.items)
    (sym (map_more placed_attribute_of c.args.attributes.now index no-attribute c.loop-placed-test.true))
    (elim c.if-placed-count.branch [
      | then-placed-count+then-placed-gt0+in_ok-push w ↦
          subst (λ (found : Vec (Vec NamespacedAttribute)). GivenSoFar (placed ++ placed_attribute_of one ∷ [])
          c.args.count found.items) (sym w.found-is)
          (given-more placed c.args.count c.loop-placed.found.items one w.index_mut.result.now w.push.new.self
          before w.if-placed-count.true (search rules) w.index_mut.ensures.value w.in_ok-push.ensures.items)
      | else-placed-count w ↦
          subst (λ (found : Vec (Vec NamespacedAttribute)). GivenSoFar (placed ++ placed_attribute_of one ∷ [])
          c.args.count found.items) (sym w.found-is)
          (given-same placed c.args.count c.loop-placed.found.items one before
          (elim w.else-placed-count.branch [
            | else-placed-count-via-then-placed-count+else-placed-gt0 v ↦ (λ k within. in-none one k (search rules))
            | else-placed-count-via-else-placed-count v ↦
                (λ k within. not-there one c.args.count k (search rules) within)
          ]))
    ])

pub returns : goal.returns
returns c =
    given-all (map placed_attribute_of c.args.attributes.now) c.args.count c.loop-placed.found.items
    (subst (λ attributes. GivenSoFar (map placed_attribute_of attributes) c.args.count c.loop-placed.found.items)
    (take_all c.loop-placed.placed-index c.args.attributes.now (omega arith)) c.loop-placed.invariant)
