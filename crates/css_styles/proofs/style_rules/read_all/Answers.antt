use Rattle.std.proofs.Common.{◌≡◌, ◌+◌, ◌++◌, ◌∷◌, List, [], ◌∙◌, length, map, take, sym, ap, subst, rules}
use Rattle.std.proofs.lemmas.List.{take_all, take_more}
use Rattle.css_sheet.specs.declared.sheet_rules.SheetRule.{SheetRule}
use Rattle.css_sheet.specs.SheetRuleViews.{sheet_rule_of}
use Rattle.css_styles.specs.Contenders.{in_rule, in_turn, rule_declarations}
use Rattle.css_styles.specs.internal.Numbered.{AllStated, numbered_of}
use Rattle.css_styles.proofs.ReadLemmas.{read-step}
use Rattle.css_styles.proofs.style_rules.read_all.Goals as goal

pub loop-rule-preserved : goal.loop-rule-preserved
loop-rule-preserved c =
    let all = c.args.rules.now in
    let i = c.loop-rule.rule-index in
    let lists = c.loop-rule.lists.items in
    let count : length lists ≡ length (take i all) = search rules in
    let next : length c.push.new.self.items ≡ i + 1 = search rules in (
      read-step c.loop-rule.properties c.read_stated.new.properties (take i all) (take (i + 1) all)
          c.rule-item.result lists c.push.new.self.items c.in_ok-list.list c.in_ok-list.ensures.more
          c.loop-rule.invariant.0 count (record {
            are =
                subst (λ k. map numbered_of c.in_ok-list.list.items
                ≡ in_turn (in_rule k (sheet_rule_of c.rule-item.result)) 0
                (rule_declarations (sheet_rule_of c.rule-item.result)))
                (c.len.ensures ∙ c.loop-rule.lists.ok.0)
                c.in_ok-list.ensures.declarations;
            numbered = c.in_ok-list.ensures.numbers;
          })
          (take_more all i _ c.loop-rule-test.true
          ∙ ap (λ (r : SheetRule). take i all ++ r ∷ []) (sym c.rule-item.is))
          c.in_ok-push.ensures.items,
      next,
    )

pub returns : goal.returns
returns c =
    subst (λ (rs : List SheetRule). AllStated c.loop-rule.properties (map sheet_rule_of rs) c.loop-rule.lists.items)
    (take_all c.loop-rule.rule-index c.args.rules.now c.loop-rule-test.false)
    c.loop-rule.invariant.0
