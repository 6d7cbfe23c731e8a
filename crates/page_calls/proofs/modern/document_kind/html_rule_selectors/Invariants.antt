use Rattle.std.proofs.Common.{◌≡◌, map, take}
use Rattle.css_sheet.specs.SheetRuleViews.{sheet_rule_of}
use Rattle.css_tree.specs.Html.{html_selector}
use Rattle.page_calls.proofs.modern.document_kind.html_rule_selectors.Given as goal

-- the selectors so far
abbrev pub invariant-loop-rule : goal.invariant-loop-rule
invariant-loop-rule l =
    l.read.items
    ≡ map (λ rule. html_selector l.mode rule.selector)
    (map sheet_rule_of (take l.rule-index l.rules))
