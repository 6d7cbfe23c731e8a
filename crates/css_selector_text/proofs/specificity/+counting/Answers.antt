use Rattle.std.proofs.Common.{map, ap, sym, ◌∙◌}
use Rattle.css_selector_text.specs.Components.{selectors_from}
use Rattle.css_selector_text.specs.Specificities.{nothing, of_test, of_condition, greatest}
use Rattle.css_selector_text.specs.Views.{complex_of, condition_of, list_test_of}
use Rattle.css_selector_text.proofs.ConditionViews.{condition_tested}
use Rattle.css_selector_text.proofs.specificity.+counting.Goals as goal

pub of_condition-returns-in-Tested : goal.of_condition-returns-in-Tested
of_condition-returns-in-Tested t c =
    c.of_test.ensures
    ∙ ap (of_test (list_test_of c.in-Tested.test)) (c.greatest.ensures
    ∙ ap (λ xs. greatest nothing (selectors_from (map complex_of xs))) c.as_slice.ensures.value)
    ∙ sym (ap of_condition (ap condition_of c.in-Tested.is
    ∙ condition_tested c.in-Tested.test c.in-Tested.selectors))
