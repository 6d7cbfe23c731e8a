use Rattle.std.proofs.Common.{◌∙◌, sym, ap, length}
use Rattle.std.proofs.lemmas.List.{length-map}
use Rattle.css_sheet.specs.SheetRuleViews.{sheet_rule_of}
use Rattle.css_styles.specs.StyleViews.{StyleRulesText}
use Rattle.css_styles.proofs.style_rules.StyleRules.count.Goals as goal

pub returns-clause-count : goal.returns-clause-count
returns-clause-count c =
    c.len.ensures ∙ c.self.inside.rules.ok.0
    ∙ sym (length-map c.self.inside.rules.items sheet_rule_of)
    ∙ ap (λ (v : StyleRulesText). length v.rules) c.self.view_is
