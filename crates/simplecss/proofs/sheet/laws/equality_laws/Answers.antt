use Rattle.simplecss.proofs.RuleEquality.{rule_decides, rules_decide}
use Rattle.simplecss.proofs.sheet.laws.equality_laws.Goals as goal

pub returns-clause-rules : goal.returns-clause-rules
returns-clause-rules c a b = rule_decides a b

pub returns-clause-sheets : goal.returns-clause-sheets
returns-clause-sheets c a b = rules_decide a.rules.items b.rules.items
