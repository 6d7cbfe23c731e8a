use Rattle.std.proofs.Common.{map, ap, sym, ◌∙◌}
use Rattle.std.specs.List.{list_all}
use Rattle.css_selector_text.specs.Components.{selectors_from}
use Rattle.css_selectors.specs.MarkedLists.{list_of}
use Rattle.css_selector_text.specs.Specificities.{nothing, of_test, greatest}
use Rattle.css_selector_text.specs.Views.{complex_of, list_test_of, part_of}
use Rattle.css_selectors.specs.internal.PlainParts.{is_plain_part}
use Rattle.css_selectors.proofs.NumberingLemmas.{not_numbered, is_numbered, where_numbered, tested_numbered}
use Rattle.css_selectors.proofs.PlainLemmas.{plain_parts_stay}
use Rattle.css_selectors.proofs.numbering.+numbering.Goals as goal

pub number_condition-returns-in_ok-all-in-Not : goal.number_condition-returns-in_ok-all-in-Not
number_condition-returns-in_ok-all-in-Not t c =
    not_numbered c.args.numbers.now (map list_of c.args.lists.now.items)
    c.number_selectors.new.lists.items c.args.condition c.in-Not.all c.in_ok-all-in-Not.all
    c.in_ok-all-in-Not.ensures c.in-Not.is

pub number_condition-returns-in_ok-all-in-Is : goal.number_condition-returns-in_ok-all-in-Is
number_condition-returns-in_ok-all-in-Is t c =
    is_numbered c.args.numbers.now (map list_of c.args.lists.now.items)
    c.number_selectors-in-Is.new.lists.items c.args.condition c.in-Is.all c.in_ok-all-in-Is.all
    c.in_ok-all-in-Is.ensures c.in-Is.is

pub number_condition-returns-in_ok-all-in-Where : goal.number_condition-returns-in_ok-all-in-Where
number_condition-returns-in_ok-all-in-Where t c =
    where_numbered c.args.numbers.now (map list_of c.args.lists.now.items)
    c.number_selectors-in-Where.new.lists.items c.args.condition c.in-Where.all
    c.in_ok-all-in-Where.all c.in_ok-all-in-Where.ensures c.in-Where.is

pub number_condition-returns-in_ok-push-in-Tested :
    goal.number_condition-returns-in_ok-push-in-Tested
number_condition-returns-in_ok-push-in-Tested t c =
    tested_numbered c.args.numbers.now (map list_of c.args.lists.now.items)
    c.number_selectors-in-Tested.new.lists.items c.args.condition c.in-Tested.all
    c.in_ok-all-in-Tested.all c.in_ok-all-in-Tested.ensures c.in-Tested.test
    c.of_test-specificity.result c.len-number.result c.push.new.self.items c.in-Tested.is
    (c.of_test-specificity.ensures ∙ ap (of_test (list_test_of c.in-Tested.test))
    (c.greatest.ensures
    ∙ ap (λ xs. greatest nothing (selectors_from (map complex_of xs))) c.as_slice.ensures.value))
    c.in_ok-push-in-Tested.ensures.items (c.len-number.ensures ∙ c.push.new.self.ok.0)

pub number_parts-returns-then-are_plain_parts : goal.number_parts-returns-then-are_plain_parts
number_parts-returns-then-are_plain_parts t c =
    plain_parts_stay c.args.numbers.now (map list_of c.args.lists.now.items)
    (map part_of c.args.parts.items)
    (ap (λ ps. list_all is_plain_part (map part_of ps)) (sym c.as_slice.ensures.value)
    ∙ sym c.are_plain_parts.ensures ∙ c.if-are_plain_parts.true)
