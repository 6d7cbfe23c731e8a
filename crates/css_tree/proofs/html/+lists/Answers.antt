use Rattle.std.proofs.Common.{map, ap, ◌∙◌, refl}
use Rattle.css_selector_text.specs.declared.components.Complex.{roll-Complex, out-roll-Complex}
use Rattle.css_selector_text.specs.Views.{complex_of, condition_of, part_of}
use Rattle.css_tree.specs.Html.{condition_in, part_in}
use Rattle.css_tree.proofs.HtmlLemmas.{read-more, read-all, read-not, read-is, read-where, read-tested}
use Rattle.css_tree.proofs.html.+lists.Goals as goal

-- one more
pub selectors_in-loop-selector-preserved : goal.selectors_in-loop-selector-preserved
selectors_in-loop-selector-preserved t c =
    read-more complex_of complex_of (map (part_in c.args.mode)) c.loop-selector.read.items
    c.args.selectors.now c.loop-selector.selector-index c.selector-item.result
    (roll-Complex (record { parts = c.in_ok-parts.parts })) c.push.new.self.items c.loop-selector-test.true c.loop-selector.invariant
    (ap (λ r. map part_of r.parts.items) (out-roll-Complex (record { parts = c.in_ok-parts.parts }))
    ∙ c.in_ok-parts.ensures
    ∙ ap (λ ps. map (part_in c.args.mode) (map part_of ps)) c.as_slice.ensures.value
    ∙ ap (λ x. map (part_in c.args.mode) (complex_of x)) c.selector-item.is)
    c.in_ok-push.ensures.items

-- all of them
pub selectors_in-returns : goal.selectors_in-returns
selectors_in-returns t c =
    read-all complex_of complex_of (map (part_in c.args.mode)) c.loop-selector.read.items
    c.args.selectors.now c.args.selectors.now
    c.loop-selector.selector-index c.loop-selector-test.false refl c.loop-selector.invariant

-- one more
pub parts_in-loop-part-preserved : goal.parts_in-loop-part-preserved
parts_in-loop-part-preserved t c =
    read-more part_of part_of (part_in c.args.mode) c.loop-part.read.items
    c.args.parts.now c.loop-part.part-index c.part-item.result
    c.in_ok-part_in.field-0 c.push.new.self.items c.loop-part-test.true c.loop-part.invariant
    (c.in_ok-part_in.ensures ∙ ap (λ x. (part_in c.args.mode) (part_of x)) c.part-item.is)
    c.in_ok-push.ensures.items

-- all of them
pub parts_in-returns : goal.parts_in-returns
parts_in-returns t c =
    read-all part_of part_of (part_in c.args.mode) c.loop-part.read.items
    c.args.parts.now c.args.parts.now
    c.loop-part.part-index c.loop-part-test.false refl c.loop-part.invariant

-- one more
pub conditions_in-loop-condition-preserved : goal.conditions_in-loop-condition-preserved
conditions_in-loop-condition-preserved t c =
    read-more condition_of condition_of (condition_in c.args.mode) c.loop-condition.read.items
    c.args.conditions.now c.loop-condition.condition-index c.condition-item.result
    c.in_ok-condition_in.field-0 c.push.new.self.items c.loop-condition-test.true c.loop-condition.invariant
    (c.in_ok-condition_in.ensures ∙ ap (λ x. (condition_in c.args.mode) (condition_of x)) c.condition-item.is)
    c.in_ok-push.ensures.items

-- all of them
pub conditions_in-returns : goal.conditions_in-returns
conditions_in-returns t c =
    read-all condition_of condition_of (condition_in c.args.mode) c.loop-condition.read.items
    c.args.conditions.now c.args.conditions.now
    c.loop-condition.condition-index c.loop-condition-test.false refl c.loop-condition.invariant

pub condition_in-returns-in_ok-selectors_in-in-Not : goal.condition_in-returns-in_ok-selectors_in-in-Not
condition_in-returns-in_ok-selectors_in-in-Not t c =
    read-not c.args.mode c.args.condition.now c.in-Not.list c.in_ok-selectors_in-in-Not.field-0
    c.as_slice.result.now c.as_slice.ensures.value c.in_ok-selectors_in-in-Not.ensures c.in-Not.is

pub condition_in-returns-in_ok-selectors_in-in-Is : goal.condition_in-returns-in_ok-selectors_in-in-Is
condition_in-returns-in_ok-selectors_in-in-Is t c =
    read-is c.args.mode c.args.condition.now c.in-Is.list c.in_ok-selectors_in-in-Is.field-0
    c.as_slice-in-Is.result.now c.as_slice-in-Is.ensures.value c.in_ok-selectors_in-in-Is.ensures c.in-Is.is

pub condition_in-returns-in_ok-selectors_in-in-Where : goal.condition_in-returns-in_ok-selectors_in-in-Where
condition_in-returns-in_ok-selectors_in-in-Where t c =
    read-where c.args.mode c.args.condition.now c.in-Where.list c.in_ok-selectors_in-in-Where.field-0
    c.as_slice-in-Where.result.now c.as_slice-in-Where.ensures.value c.in_ok-selectors_in-in-Where.ensures c.in-Where.is

pub condition_in-returns-in_ok-selectors_in-in-Tested :
    goal.condition_in-returns-in_ok-selectors_in-in-Tested
condition_in-returns-in_ok-selectors_in-in-Tested t c =
    read-tested c.args.mode c.args.condition.now c.in-Tested.list
    c.in_ok-selectors_in-in-Tested.field-0 c.as_slice-in-Tested.result.now
    c.as_slice-in-Tested.ensures.value c.in_ok-selectors_in-in-Tested.ensures c.in-Tested.test
    c.in-Tested.is
