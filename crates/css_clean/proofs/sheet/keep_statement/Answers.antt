use Rattle.std.proofs.Common.{◌∙◌, string_bytes, ap}
use Rattle.std.proofs.lemmas.Result.{on_ok_weaker}
use Rattle.css_syntax.specs.Views.{block_of, prelude_of, statement_of}
use Rattle.css_clean.specs.Views.{sheet_policy_of}
use Rattle.css_clean.proofs.KeptLemmas.{sheet-rule}
use Rattle.css_clean.proofs.sheet.keep_statement.Goals as goal

pub returns-in-RuleSet-clause-kept : goal.returns-in-RuleSet-clause-kept
returns-in-RuleSet-clause-kept c =
    let rule = c.in-RuleSet.rule in
    on_ok_weaker c.keep_rule.result
    (λ wrote. wrote ∙ sheet-rule (sheet_policy_of c.args.policy) (string_bytes c.args.out.now)
    (statement_of c.args.part.found.part.statement) (prelude_of rule.prelude) (block_of rule.block)
    (ap statement_of c.in-RuleSet.is))
    c.keep_rule.ensures.kept
