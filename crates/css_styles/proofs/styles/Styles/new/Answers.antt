use Rattle.std.proofs.Common.{◌∙◌, length, ap}
use Rattle.std.proofs.lemmas.List.{length-map}
use Rattle.std.proofs.lemmas.Result.{IfOk-weaker}
use Rattle.css_sheet.specs.SheetOrder.{SheetRuleText}
use Rattle.css_styles.proofs.styles.Styles.new.Goals as goal

pub with_walk-requires-clause-selectors : goal.with_walk-requires-clause-selectors
with_walk-requires-clause-selectors c =
    ap length c.in_ok-walk.ensures.selectors
    ∙ length-map c.args.rules.now.rules (λ (rule : SheetRuleText). rule.selector)

pub returns-clause-rules : goal.returns-clause-rules
returns-clause-rules c =
    IfOk-weaker c.with_walk.result _ _ (λ styles is. ap (λ v. v.rules) is) c.with_walk.ensures

pub returns-clause-page : goal.returns-clause-page
returns-clause-page c =
    IfOk-weaker c.with_walk.result _ _ (λ styles is. ap (λ v. v.page) is) c.with_walk.ensures

pub returns-clause-selectors : goal.returns-clause-selectors
returns-clause-selectors c =
    IfOk-weaker c.with_walk.result _ _
    (λ styles is. ap (λ v. v.walk.selectors) is ∙ c.in_ok-walk.ensures.selectors) c.with_walk.ensures
