-- The texts of the selectors of rules.
use Rattle.std.specs.Prelude.{◌≡◌, ◌<◌, ◌≤◌, ℕ, List, length, Result, Ok, Err}
use Rattle.std.specs.List.{flat_map}
use Rattle.css_sheet.specs.SheetOrder.{SheetRuleText}
use Rattle.call_answers.specs.declared.answer.CallError.{CallError}
use Rattle.call_answers.specs.Calls.{FailsLonger}

-- the texts of the selectors of rules, one after another
abbrev pub rule_texts : List SheetRuleText → List ℕ
rule_texts rules = flat_map (λ (rule : SheetRuleText). rule.text) rules

-- these in at most this number of bytes, or why they are not written
abbrev pub AreRuleTexts : (most : ℕ) → List SheetRuleText → Result (List ℕ) CallError → Type 0
AreRuleTexts most rules (Ok bytes) = (bytes ≡ rule_texts rules) × (length bytes ≤ most)
AreRuleTexts most rules (Err failure) = FailsLonger (most < length (rule_texts rules)) failure
