use Rattle.std.proofs.Common.{◌≡◌, ◌++◌, map, subst}
use Rattle.std.specs.Result.{OnOk}
use Rattle.css_selectors.specs.KeyViews.{key_of}
use Rattle.css_selectors.proofs.KeyLemmas.{keys_listed}
use Rattle.css_selectors.proofs.key.push_condition.Goals as goal

pub returns-in-Is : goal.returns-in-Is
returns-in-Is c =
    subst (λ keys. OnOk c.push_selectors.result
    (map key_of c.push_selectors.new.keys.items ≡ map key_of c.args.keys.now.items ++ keys))
    (keys_listed c.args.condition.now c.in-Is.selectors c.as_slice.result.now c.in-Is.is c.as_slice.ensures.value)
    c.push_selectors.ensures
