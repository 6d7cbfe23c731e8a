use Rattle.std.proofs.Common.{◌≡◌, ◌-◌, ◌++◌, length, map, refl, ap, sym, ◌∙◌, arith}
use Rattle.std.specs.Vec.Iter.{into_iter_items}
use Rattle.css_selector_text.specs.reading.Defaults.{parts_in}
use Rattle.css_selector_text.specs.Views.{part_of}
use Rattle.css_selector_text.proofs.DefaultLemmas.{not_in, is_in, where_in, tested_in, part_step}
use Rattle.css_selector_text.proofs.reading.defaults.+defaults.Goals as goal

pub condition_in-returns-in_ok-selectors_in-in-Not : goal.condition_in-returns-in_ok-selectors_in-in-Not
condition_in-returns-in_ok-selectors_in-in-Not t c =
    not_in c.args.number c.args.exempting c.args.condition c.in-Not.all c.in_ok-selectors_in-in-Not.field-0 _
    c.in_ok-selectors_in-in-Not.ensures refl c.in-Not.is

pub condition_in-returns-in_ok-selectors_in-in-Is : goal.condition_in-returns-in_ok-selectors_in-in-Is
condition_in-returns-in_ok-selectors_in-in-Is t c =
    is_in c.args.number c.args.exempting c.args.condition c.in-Is.all c.in_ok-selectors_in-in-Is.field-0 _
    c.in_ok-selectors_in-in-Is.ensures refl c.in-Is.is

pub condition_in-returns-in_ok-selectors_in-in-Where : goal.condition_in-returns-in_ok-selectors_in-in-Where
condition_in-returns-in_ok-selectors_in-in-Where t c =
    where_in c.args.number c.args.exempting c.args.condition c.in-Where.all c.in_ok-selectors_in-in-Where.field-0 _
    c.in_ok-selectors_in-in-Where.ensures refl c.in-Where.is

pub condition_in-returns-in_ok-all-in-Tested : goal.condition_in-returns-in_ok-all-in-Tested
condition_in-returns-in_ok-all-in-Tested t c =
    tested_in c.args.number c.args.exempting c.args.condition c.in-Tested.all c.in_ok-all-in-Tested.all _
    c.in_ok-all-in-Tested.ensures c.in-Tested.test c.is_exempting_within.ensures c.in-Tested.is

pub parts_in-loop-part-preserved : goal.parts_in-loop-part-preserved
parts_in-loop-part-preserved t c =
    let rest = into_iter_items c.next.new.self in
    let is : c.loop-part.left - 1 ≡ length rest =
    omega (arith, c.loop-part.invariant.left, ap length c.in-Some.ensures.steps.0) in
    record {
      left = is;
      found = rw c.in_ok-push.ensures.items (part_step c.args.number c.args.exempting c.in-Some.part rest
          c.loop-part.all.items _ (c.loop-part.left - 1) _ is
          (ap (λ cs. record { combinator = c.in-Some.part.combinator; conditions = cs }) c.in_ok-conditions.ensures)
          (ap (λ xs. map part_of c.loop-part.all.items
          ++ parts_in c.args.number c.args.exempting (map part_of xs)) (sym c.in-Some.ensures.steps.0)
          ∙ c.loop-part.invariant.found));
    }
