use Rattle.std.proofs.Common.{◌≡◌, ◌+◌, ◌↔◌, inl, inr, ℕ, IsTrue, length, map, Some, refl, sym, ap, ◌∙◌, subst, rules, arith}
use Rattle.std.specs.List.{slice_get}
use Rattle.std.specs.Option.{option_map}
use Rattle.std.proofs.lemmas.List.{length-map}
use Rattle.std.proofs.lemmas.Option.{slice_get-map, slice_get_cases, slice_get_read}
use Rattle.css_index.specs.Found.{AreAll, MatchesAt}
use Rattle.css_selectors.specs.Meanings.{Matches}
use Rattle.css_sheet.specs.SheetOrder.{SheetRuleText}
use Rattle.css_sheet.specs.SheetRuleViews.{sheet_rule_of}
use Rattle.css_tree.specs.Pages.{page_document}
use Rattle.page_calls.specs.Readings.{selector_as}
use Rattle.simplecss_calls.specs.WinnerNumbers.{selectors_read}
use Rattle.simplecss_calls.proofs.FirstConditions.{Before, all_done, all_none, all_tested}
use Rattle.simplecss_calls.proofs.tested.find_on.Goals as goal

some_same : {A : Type 0} {x y : A} → Some x ≡ Some y → x ≡ y
some_same e = cc

pub loop-rule-init : goal.loop-rule-init
loop-rule-init c = record {
  count = refl;
  all = subst (AreAll (Before (MatchesAt page_document c.args.node.now (selectors_read
      (selector_as c.args.kind) (map sheet_rule_of c.args.rules.now))) 0)) (sym (search rules))
      (all_none (MatchesAt page_document c.args.node.now (selectors_read
      (selector_as c.args.kind) (map sheet_rule_of c.args.rules.now))));
}

pub loop-rule-preserved : goal.loop-rule-preserved
loop-rule-preserved c =
    let all = map sheet_rule_of c.args.rules.now in
    let read = selector_as c.args.kind in
    let selectors = selectors_read read all in
    let at = c.loop-rule.rule-index in
    let rule = c.rule-item.result in
    let W : ℕ → Type 0 = MatchesAt page_document c.args.node.now selectors in
    let there : slice_get selectors at ≡ Some (read (sheet_rule_of rule).selector) =
    slice_get-map (λ (r : SheetRuleText). read r.selector) all at
    ∙ ap (option_map (λ (r : SheetRuleText). read r.selector)) (slice_get-map sheet_rule_of c.args.rules.now at
    ∙ ap (option_map sheet_rule_of) (slice_get_read c.args.rules.now (length c.args.rules.now) at rule refl
    c.loop-rule-test.true c.rule-item.is)) in
    let matched = c.in_ok-matched.ensures in
    let tested : IsTrue c.in_ok-matched.matched ↔ W at = (
      λ yes. (read (sheet_rule_of rule).selector, there, matched.0 yes),
      λ m. matched.1 (subst (λ s. Matches page_document s c.args.node.now) (some_same (sym m.1 ∙ there)) m.2),
    ) in
    record {
      count = ap (λ k. k + 1) c.loop-rule.invariant.count;
      all = subst (AreAll (Before W (at + 1))) (sym (search rules))
          (all_tested W at c.loop-rule.indices.items c.in_ok-matched.matched c.loop-rule.invariant.all tested);
    }

pub returns : goal.returns
returns c =
    let all = map sheet_rule_of c.args.rules.now in
    let read = selector_as c.args.kind in
    let selectors = selectors_read read all in
    let W : ℕ → Type 0 = MatchesAt page_document c.args.node.now selectors in
    all_done W c.loop-rule.rule-index c.loop-rule.indices.items c.loop-rule.invariant.all
    (λ i w. elim (slice_get_cases selectors i).1 [
      | inl there ↦ (let h = there.0 in
          let len = length-map all (λ (r : SheetRuleText). read r.selector) in
          let own = length-map c.args.rules.now sheet_rule_of in omega (arith, h, len, own))
      | inr past ↦ absurd (let none = past.1 in let some = w.1 in cc)
    ])
