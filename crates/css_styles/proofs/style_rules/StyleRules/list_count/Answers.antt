use Rattle.std.proofs.Common.{subst}
use Rattle.css_styles.specs.StyleViews.{AreAnswered, StyleRulesText}
use Rattle.css_styles.proofs.style_rules.StyleRules.list_count.Goals as goal

pub returns : goal.returns
returns c = subst (λ (v : StyleRulesText). AreAnswered v.rules v.lists) c.self.view_is c.self.invariant.1
