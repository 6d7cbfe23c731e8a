use Rattle.std.proofs.Common.{map, string_bytes, None, Some, ap, ◌∙◌, subst}
use Rattle.std.specs.Prelude.{MatchResult}
use Rattle.simplecss.specs.RuleViews.{rule_of}
use Rattle.cssq.proofs.Indexed.{same_selectors}
use Rattle.call_answers.specs.declared.pages.LineContent.TheVariants.{Numbers}
use Rattle.call_answers.specs.AnswerLines.{AreLinesOf}
use Rattle.call_answers.specs.Calls.{FailsLonger}
use Rattle.port_calls.proofs.port.match_lines.Goals as goal

pub returns : goal.returns
returns c =
    subst (λ selectors. MatchResult c.lines.result (λ text.
    AreLinesOf c.args.most Numbers selectors c.args.tree.now (Some (string_bytes text)))
    (FailsLonger (AreLinesOf c.args.most Numbers selectors c.args.tree.now None)))
    (ap (map (λ rule. rule.selector)) c.deref.ensures.value
    ∙ same_selectors rule_of c.args.sheet.now.rules.items) c.lines.ensures
