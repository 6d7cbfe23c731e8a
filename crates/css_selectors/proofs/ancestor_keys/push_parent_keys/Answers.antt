use Rattle.std.proofs.Common.{◌≡◌, ◌++◌, ◌-◌, ◌≤◌, length, get_or, map, sym, ap, ◌∙◌, subst, arith}
use Rattle.std.specs.Result.{OnOk}
use Rattle.css_selectors.specs.AncestorKeys.{parent_step_keys}
use Rattle.css_selectors.specs.KeyViews.{key_of}
use Rattle.css_selector_text.specs.Views.{condition_of}
use Rattle.css_selectors.proofs.AncestorKeyLemmas.{parent_keys_are}
use Rattle.css_selectors.proofs.ancestor_keys.push_parent_keys.Goals as goal

pub returns : goal.returns
returns c =
    let ps = c.parts-parts.result.now in
    let q = get_or ps (length ps - 1) c.index-parts-count.result in
    let p = get_or ps (length ps - 2) c.index-parts-count-2.result in
    let more = c.if-count-lt2.false in
    let some : 2 ≤ length ps = omega (arith, more) in
    subst (λ ks. OnOk c.push_parent_step.result (map key_of c.push_parent_step.new.keys.items
    ≡ map key_of c.args.keys.now.items ++ ks))
    (ap (λ cs. parent_step_keys q.combinator (map condition_of cs)) c.as_slice.ensures.value
    ∙ sym (parent_keys_are ps c.args.selector.now.parts c.parts-parts.ensures.same p q some
    (ap (get_or ps (length ps - 2)) c.index-parts-count-2.is)
    (ap (get_or ps (length ps - 1)) c.index-parts-count.is)))
    c.push_parent_step.ensures
