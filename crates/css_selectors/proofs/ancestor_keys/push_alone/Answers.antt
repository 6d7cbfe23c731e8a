use Rattle.std.proofs.Common.{rules, ◌≡◌, ◌++◌, ◌-◌, length, map, take, sym, ap, ◌∙◌}
use Rattle.css_selectors.specs.AncestorKeys.{keys_among}
use Rattle.css_selectors.specs.KeyViews.{key_of}
use Rattle.css_selector_text.specs.Views.{condition_of}
use Rattle.css_selectors.proofs.AncestorKeyLemmas.{alone_kept, alone_cut}
use Rattle.css_selectors.proofs.ancestor_keys.push_alone.Goals as goal

pub returns-then-len-count-ne1 : goal.returns-then-len-count-ne1
returns-then-len-count-ne1 c =
    let old = c.args.keys.now.items in
    let new = c.push_best.new.keys.items in
    let count : c.len-count.result ≡ length old = search rules in
    let len : c.len.result ≡ length new = search rules in
    ap (map key_of) (c.truncate.ensures.items ∙ ap (λ n. take n new) count)
    ∙ alone_cut key_of old new (keys_among (map condition_of c.args.conditions.now))
    (c.in_ok-push_best.ensures ∙ ap (λ ks. map key_of old ++ ks) (sym c.best_condition.ensures))
    (λ e. c.if-len-count-ne1.true
    (ap (λ n. n - c.len-count.result) len ∙ ap (λ n. length new - n) count ∙ e))

pub returns-else-len-count-ne1 : goal.returns-else-len-count-ne1
returns-else-len-count-ne1 c =
    let old = c.args.keys.now.items in
    let new = c.push_best.new.keys.items in
    let count : c.len-count.result ≡ length old = search rules in
    let len : c.len.result ≡ length new = search rules in
    alone_kept key_of old new (keys_among (map condition_of c.args.conditions.now))
    (c.in_ok-push_best.ensures ∙ ap (λ ks. map key_of old ++ ks) (sym c.best_condition.ensures))
    (sym (ap (λ n. n - c.len-count.result) len ∙ ap (λ n. length new - n) count)
    ∙ c.if-len-count-ne1.false)
