use Rattle.std.proofs.Common.{subst, ◌≡◌, ◌<◌, ◌++◌, ◌∷◌, [], length, map, take, sym, ap, ◌∙◌, arith, append_assoc}
use Rattle.std.proofs.lemmas.List.{map_more}
use Rattle.simplecss_selector.specs.BucketViews.{bucket_value}
use Rattle.simplecss.specs.internal.Chains.{selectors_of}
use Rattle.std.specs.List.{fold}
use Rattle.simplecss_selector.specs.AncestorKeys.{ancestor_keys}
use Rattle.simplecss_selector.specs.KeyViews.{key_value}
use Rattle.simplecss.specs.OpenPaths.{add_key}
use Rattle.simplecss.specs.internal.NeededKeys.{keys_of, AreNumbersOf}
use Rattle.simplecss.proofs.Chaining.{link_more}
use Rattle.simplecss.proofs.NeededNumbers.{needed_push}
use Rattle.simplecss.proofs.OnlyKeyLemmas.{only_push}
use Rattle.simplecss.proofs.index.rule_index.push_links.Goals as goal

pub loop-rule-preserved : goal.loop-rule-preserved
loop-rule-preserved g c =
    let old = selectors_of c.args.links.now.items in
    let rules = c.args.rules.now in
    let i = c.loop-rule.rule-index in
    let rule = c.rule-item in
    let within : i < length rules = omega arith in
    let more = map_more g.T.HasSelector.selector_in rules i rule.result within
    ∙ ap (λ r. map g.T.HasSelector.selector_in (take i rules) ++ g.T.HasSelector.selector_in r ∷ []) (sym rule.is)
    ∙ ap (λ s. map g.T.HasSelector.selector_in (take i rules) ++ s ∷ []) (sym c.selector-selector.ensures) in
    let links = c.loop-rule.links in
    let index : c.len.result ≡ length links.items = omega (arith, c.len.ensures, links.ok.0) in
    let linked =
    link_more c.loop-rule.lasts c.replace.new.self links.items c.push.new.self.items c.new.result
    c.len.result c.in_ok-earlier.earlier c.selector-selector.result.now (bucket_value c.bucket-bucket.result)
    c.loop-rule.invariant.chained index c.bucket-bucket.ensures c.in_ok-earlier.ensures.known
    c.in_ok-earlier.ensures.taken c.new.ensures.earlier c.new.ensures.selector
    c.in_ok-push.ensures.items in
    let selector = c.selector-selector.result.now in
    let keys : map key_value c.deref.result.now ≡ ancestor_keys selector =
    ap (map key_value) c.deref.ensures.value ∙ c.in_ok-push_ancestor_keys.ensures
    ∙ ap (λ ks. map key_value ks ++ ancestor_keys selector) c.clear.ensures.items in
    record {
      chained = linked.0;
      needed = needed_push c.loop-rule.needed c.numbers_of.new.self links.items
          c.push.new.self.items c.new.result selector
          c.loop-rule.invariant.needed c.in_ok-numbers.ensures.numbered
          (c.in_ok-numbers.ensures.keys ∙ ap (fold add_key (keys_of c.loop-rule.needed)) keys)
          (subst (λ numbers. AreNumbersOf (keys_of c.numbers_of.new.self) numbers.items
          (ancestor_keys selector)) (sym c.new.ensures.needed)
          (subst (AreNumbersOf (keys_of c.numbers_of.new.self) c.in_ok-numbers.numbers.items) keys
          c.in_ok-numbers.ensures.numbers))
          c.new.ensures.selector c.in_ok-push.ensures.items;
      only = only_push links.items c.push.new.self.items c.new.result selector c.loop-rule.invariant.only
          c.new.ensures.selector c.new.ensures.only c.in_ok-push.ensures.items;
      selectors =
          linked.1 ∙ ap (λ ss. ss ++ c.selector-selector.result.now ∷ []) c.loop-rule.invariant.selectors
          ∙ append_assoc old (map g.T.HasSelector.selector_in (take i rules))
          (c.selector-selector.result.now ∷ []) ∙ ap (λ ss. old ++ ss) (sym more);
    }
