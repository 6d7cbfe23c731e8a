use Rattle.std.proofs.Common.{◌≡◌, ◌≤◌, string_bytes, length, map, take}
use Rattle.css_sheet.specs.SheetRuleViews.{sheet_rule_of}
use Rattle.simplecss_calls.specs.RuleTexts.{rule_texts}
use Rattle.simplecss_calls.proofs.rule_texts.texts.Given as goal

-- the texts of the rules so far, which are short enough
abbrev pub invariant-loop-rule : goal.invariant-loop-rule
invariant-loop-rule l =
    (string_bytes l.out ≡ rule_texts (map sheet_rule_of (take l.rule-index l.rules)))
    × (length (string_bytes l.out) ≤ l.most)
