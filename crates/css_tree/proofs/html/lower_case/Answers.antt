use Rattle.css_tree.proofs.HtmlLemmas.{lower-same}
use Rattle.std.proofs.Common.{sym, ◌∙◌}
use Rattle.css_tree.proofs.html.lower_case.Goals as goal

pub returns-else-has_capital : goal.returns-else-has_capital
returns-else-has_capital c =
    lower-same c.args.name.now (sym c.has_capital.ensures ∙ c.if-has_capital.false)
