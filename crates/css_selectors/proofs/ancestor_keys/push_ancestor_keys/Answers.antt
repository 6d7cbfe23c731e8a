use Rattle.std.proofs.Common.{◌+◌, ◌++◌, get_or, map, sym, ap, ◌∙◌, append_assoc, arith}
use Rattle.css_selectors.specs.AncestorKeys.{keys_before, step_keys}
use Rattle.css_selectors.specs.KeyViews.{key_of}
use Rattle.css_selector_text.specs.Views.{condition_of}
use Rattle.css_selectors.proofs.AncestorKeyLemmas.{keys_before-more}
use Rattle.css_selectors.proofs.ancestor_keys.push_ancestor_keys.Goals as goal

pub loop-index-preserved : goal.loop-index-preserved
loop-index-preserved c =
    let parts = c.args.selector.now.parts in
    let i = c.loop-index.index in
    let old = map key_of c.args.keys.now.items in
    let ps = c.parts-parts.result.now in
    let q = get_or ps (i + 1) c.index-parts-index.result in
    let p = get_or ps i c.index-parts-index-in-loop-index.result in
    let test = c.loop-index-test.true in
    let some = c.parts-parts.ensures.some in
    c.in_ok-push_step.ensures
    ∙ ap (λ cs. map key_of c.loop-index.keys.items ++ step_keys q.combinator (map condition_of cs))
    c.as_slice.ensures.value
    ∙ ap (λ ks. ks ++ step_keys q.combinator (map condition_of p.conditions.items)) c.loop-index.invariant
    ∙ append_assoc old (keys_before parts i) (step_keys q.combinator (map condition_of p.conditions.items))
    ∙ ap (λ ks. old ++ ks) (sym (keys_before-more ps parts c.parts-parts.ensures.same i p q
    (omega (arith, test, some)) (ap (get_or ps i) c.index-parts-index-in-loop-index.is)
    (ap (get_or ps (i + 1)) c.index-parts-index.is)))
