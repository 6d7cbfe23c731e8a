use Rattle.std.proofs.Common.{◌≡◌, take, string_bytes}
use Rattle.simplecss.specs.RuleViews.{rules_of}
use Rattle.call_answers.specs.PortTexts.{rule_texts}
use Rattle.call_answers.proofs.port_texts.rule_texts.Given as goal

-- the texts of the rules so far
abbrev pub invariant-loop-rule : goal.invariant-loop-rule
invariant-loop-rule l = string_bytes l.out ≡ rule_texts (rules_of (take l.rule-index l.rules))
