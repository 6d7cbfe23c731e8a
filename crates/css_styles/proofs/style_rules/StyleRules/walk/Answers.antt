use Rattle.std.proofs.Common.{◌≡◌, List, map, refl, sym, subst, ◌∙◌}
use Rattle.std.proofs.lemmas.Result.{IfOk-weaker}
use Rattle.css_selector_text.specs.Components.{Selector}
use Rattle.css_sheet.specs.SheetOrder.{SheetRuleText}
use Rattle.css_sheet.specs.declared.sheet_rules.SheetRule.{SheetRule}
use Rattle.css_tree.specs.Answered.{IsMarkedFor}
use Rattle.css_styles.proofs.AnsweredRules.{rules-marked-for}
use Rattle.css_styles.proofs.ReadLemmas.{selectors-of}
use Rattle.css_styles.proofs.style_rules.StyleRules.walk.Goals as goal

pub new-requires : goal.new-requires
new-requires c = λ lifetimes. (
  (refl, (refl, tt)),
  subst (λ (ss : List Selector). IsMarkedFor ss c.args.page.now)
      (sym (selectors-of c.as_slice.result.now c.args.self.now.rules c.as_slice.ensures))
      (rules-marked-for c.args.self.now c.args.page.now c.list_count-count.ensures c.requires),
)

pub returns-clause-selectors : goal.returns-clause-selectors
returns-clause-selectors c =
    IfOk-weaker c.new.result
    (λ walk. walk.walk.selectors ≡ map (λ (rule : SheetRule). rule.selector) c.as_slice.result.now)
    (λ walk. walk.walk.selectors ≡ map (λ (rule : SheetRuleText). rule.selector) c.args.self.now.rules)
    (λ walk are. are ∙ selectors-of c.as_slice.result.now c.args.self.now.rules c.as_slice.ensures)
    c.new.ensures.selectors
