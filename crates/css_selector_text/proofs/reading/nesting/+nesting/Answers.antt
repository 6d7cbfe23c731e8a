use Rattle.std.proofs.Common.{refl}
use Rattle.css_selector_text.specs.reading.Nested.{simple_under}
use Rattle.css_selector_text.proofs.NestingLemmas.{not_with, is_with, where_with, tested_with}
use Rattle.css_selector_text.proofs.reading.nesting.+nesting.Goals as goal

pub condition_under-returns-in_ok-selectors_under-in-Not : goal.condition_under-returns-in_ok-selectors_under-in-Not
condition_under-returns-in_ok-selectors_under-in-Not t c =
    not_with (simple_under c.args.list) c.args.condition c.in-Not.all
    c.in_ok-selectors_under-in-Not.field-0 c.in-Not.all.items refl
    c.in_ok-selectors_under-in-Not.ensures c.in-Not.is

pub condition_under-returns-in_ok-selectors_under-in-Is : goal.condition_under-returns-in_ok-selectors_under-in-Is
condition_under-returns-in_ok-selectors_under-in-Is t c =
    is_with (simple_under c.args.list) c.args.condition c.in-Is.all
    c.in_ok-selectors_under-in-Is.field-0 c.in-Is.all.items refl
    c.in_ok-selectors_under-in-Is.ensures c.in-Is.is

pub condition_under-returns-in_ok-selectors_under-in-Where : goal.condition_under-returns-in_ok-selectors_under-in-Where
condition_under-returns-in_ok-selectors_under-in-Where t c =
    where_with (simple_under c.args.list) c.args.condition c.in-Where.all
    c.in_ok-selectors_under-in-Where.field-0 c.in-Where.all.items refl
    c.in_ok-selectors_under-in-Where.ensures c.in-Where.is

pub condition_under-returns-in_ok-selectors_under-in-Tested : goal.condition_under-returns-in_ok-selectors_under-in-Tested
condition_under-returns-in_ok-selectors_under-in-Tested t c =
    tested_with (simple_under c.args.list) c.args.condition c.in-Tested.all
    c.in_ok-selectors_under-in-Tested.field-0 c.in-Tested.all.items refl
    c.in_ok-selectors_under-in-Tested.ensures c.in-Tested.test c.in-Tested.is
