use Rattle.std.proofs.Common.{List, map, subst}
use Rattle.css_sheet.specs.SheetRuleViews.{sheet_rule_of}
use Rattle.css_sheet.specs.declared.sheet_rules.SheetRule.{SheetRule}
use Rattle.css_selectors.specs.MarkedLists.{list_of}
use Rattle.css_styles.specs.internal.Numbered.{AllStated}
use Rattle.css_styles.proofs.AnsweredRules.{rules-answered}
use Rattle.css_styles.proofs.style_rules.StyleRules.read.Goals as goal

pub invariant_of-result : goal.invariant_of-result
invariant_of-result g c = (
  subst (λ (rs : List SheetRule). AllStated c.read_all.new.properties (map sheet_rule_of rs)
      c.in_ok-stated.stated.items) c.deref.ensures.value c.in_ok-stated.ensures,
  rules-answered (map (λ list. list.items) c.in_ok-rules.field-0.lists.items) c.in_ok-numbering.numbering c.number_rules.new.numbering _
      (map sheet_rule_of c.in_ok-rules-2.rules.items) (map list_of c.into_lists.result.items)
      c.in_ok-numbering.ensures c.in_ok-rules-2.ensures c.into_lists.ensures,
)
