use Rattle.std.proofs.Common.{◌≡◌, ◌+◌, ◌++◌, ◌≤◌, ap, ◌∙◌, sym, subst}
use Rattle.std.proofs.lemmas.Bool.{both_ways}
use Rattle.std.proofs.lemmas.List.{map-append, length-map}
use Rattle.simplecss.specs.DeclarationViews.{declaration_of, declarations_of}
use Rattle.simplecss.specs.RuleViews.{rule_of, rules_of}
use Rattle.cssq.specs.Winners.{IsStated, ListsInOrder}
use Rattle.cssq.proofs.FromLast.{rule_read}
use Rattle.cssq.proofs.Listing.{Before, lists_before, lists_rule, lists_skip, lists_all}
use Rattle.cssq.proofs.cascade.stated_on.Goals as goal
use Rattle.cssq.proofs.cascade.stated_on.Goals.{then-matches+in_ok-extend_from_slice, else-matches}

pub loop-rule-init : goal.loop-rule-init
loop-rule-init g c =
    let has = Before (IsStated g.E.Element.tree (g.E.Element.node c.args.element.now)
    (rules_of c.args.rules.now)) 0 in
    subst (λ items. ListsInOrder has (declarations_of items)) (sym c.new-all.ensures.items)
    (lists_before
    (IsStated g.E.Element.tree (g.E.Element.node c.args.element.now) (rules_of c.args.rules.now)))

pub loop-rule-preserved : goal.loop-rule-preserved
loop-rule-preserved g c =
    let tree = g.E.Element.tree in
    let n = g.E.Element.node c.args.element.now in
    let rules = rules_of c.args.rules.now in
    let m = c.loop-rule.rule-index in
    let rule = c.rule-item.result in
    let at = rule_read c.args.rules.now m rule c.loop-rule-test.true c.rule-item.is in
    elim c.if-matches.branch [
      | then-matches+in_ok-extend_from_slice w ↦
          let old = c.loop-rule.all.items in
          let declared = rule.declarations.items in
          let read : c.if-matches.all.items ≡ w.extend_from_slice.new.self.items =
          ap (λ v. v.items) w.all-is in
          let grown : w.extend_from_slice.new.self.items ≡ old ++ w.deref.result.now =
          w.in_ok-extend_from_slice.ensures.items in
          let same : old ++ w.deref.result.now ≡ old ++ declared =
          ap (λ ds. old ++ ds) w.deref.ensures.value in
          let items : declarations_of c.if-matches.all.items
          ≡ declarations_of old ++ declarations_of declared =
          ap declarations_of (read ∙ grown ∙ same) ∙ map-append declaration_of old declared in
          subst (ListsInOrder (Before (IsStated tree n rules) (m + 1))) (sym items) (lists_rule tree
          n rules m (rule_of rule) at (c.matches.ensures.0 w.if-matches.true) c.loop-rule.invariant)
      | else-matches w ↦
          subst (ListsInOrder (Before (IsStated tree n rules) (m + 1)))
          (ap (λ v. declarations_of v.items) (sym w.all-is))
          (lists_skip tree n rules m (rule_of rule) at (λ takes. both_ways c.matches.result
          w.if-matches.false (c.matches.ensures.1 takes)) c.loop-rule.invariant)
    ]

pub returns : goal.returns
returns g c =
    lists_all g.E.Element.tree (g.E.Element.node c.args.element.now)
    (rules_of c.args.rules.now) c.loop-rule.rule-index (subst (λ k. k ≤ c.loop-rule.rule-index)
    (sym (length-map c.args.rules.now rule_of)) c.loop-rule-test.false) c.loop-rule.invariant
