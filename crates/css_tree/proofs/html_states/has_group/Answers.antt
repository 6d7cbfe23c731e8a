use Rattle.std.proofs.Common.{ap, ◌∙◌}
use Rattle.std.specs.Prelude.{is_some}
use Rattle.css_tree.proofs.html_states.has_group.Goals as goal

pub returns-in-Some : goal.returns-in-Some
returns-in-Some c rows are =
    ap is_some c.in-Some.ensures.value ∙ are (c.args.form, c.args.name)

pub returns-in-None : goal.returns-in-None
returns-in-None c rows are =
    ap is_some c.in-None.ensures.value ∙ are (c.args.form, c.args.name)
