-- Conditions with a list, as the definitions see them.
-- Serves `meeting`, `key` and `printing`.
use Rattle.std.proofs.Common.{◌≡◌, map, Vec, Global, rules}
use Rattle.css_selector_text.specs.declared.components.Complex.{Complex}
use Rattle.css_selector_text.specs.declared.components.Condition.{Not, Is, Where, Tested, the_lemmas}
use Rattle.css_selector_text.specs.declared.components.ListTest.{ListTest as ListTestOf}
use Rattle.css_selector_text.specs.Components.{selectors_from}
use Rattle.css_selector_text.specs.Components.Condition.{negation, any_of, where_any, tested}
use Rattle.css_selector_text.specs.Views.{condition_of, complex_of, list_test_of}

pub condition_not : (v : Vec Complex Global)
    → condition_of (Not v) ≡ negation (selectors_from (map complex_of v.items))
condition_not v = search (rules, the_lemmas)

pub condition_is : (v : Vec Complex Global)
    → condition_of (Is v) ≡ any_of (selectors_from (map complex_of v.items))
condition_is v = search (rules, the_lemmas)

pub condition_where : (v : Vec Complex Global)
    → condition_of (Where v) ≡ where_any (selectors_from (map complex_of v.items))
condition_where v = search (rules, the_lemmas)

pub condition_tested : (t : ListTestOf) (v : Vec Complex Global) → condition_of (Tested t v)
    ≡ tested (list_test_of t) (selectors_from (map complex_of v.items))
condition_tested t v = search (rules, the_lemmas)
