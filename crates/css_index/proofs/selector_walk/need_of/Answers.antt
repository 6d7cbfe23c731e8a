use Rattle.std.proofs.Common.{◌++◌, map, ap, ◌∙◌, subst}
use Rattle.css_selectors.specs.AncestorKeys.{ancestor_keys}
use Rattle.css_selectors.specs.KeyViews.{key_of}
use Rattle.css_index.specs.Walks.{AreNumbersOf}
use Rattle.css_index.proofs.WalkLemmas.{still_numbers}
use Rattle.css_index.proofs.selector_walk.need_of.Goals as goal

pub returns-clause-ancestors : goal.returns-clause-ancestors
returns-clause-ancestors c =
    let s = c.args.selector.now in
    let first = c.push_numbers.new.self in
    let numbers = c.push_numbers.new.numbers.items in
    still_numbers first c.push_numbers-2.new.self (ancestor_keys s) numbers
    c.in_ok-push_numbers-2.ensures.more
    (subst (λ ks. AreNumbersOf first ks numbers)
    (ap (map key_of) c.as_slice.ensures.value ∙ c.in_ok-push_ancestor_keys.ensures
    ∙ ap (λ xs. map key_of xs ++ ancestor_keys s) c.clear.ensures.items)
    c.in_ok-push_numbers.ensures.numbers)
