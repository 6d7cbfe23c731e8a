use Rattle.simplecss_calls.proofs.WinnerCalls.{texts-due}
use Rattle.simplecss_calls.proofs.rule_texts.rule_texts.Goals as goal

pub returns : goal.returns
returns c = texts-due c.args.most c.args.rules.now.rules _ c.as_slice.ensures c.texts.result c.texts.ensures
