use Rattle.std.proofs.Common.{rules, sym, ◌∙◌}
use denote.Enum.Bare.{same_true}
use Rattle.css_html_tree.specs.contracts.names.Name.{the_type}
use Rattle.html_edits.proofs.shapes.is_same_name.Goals as goal

pub returns : goal.returns
returns c = λ h. same_true the_type (search rules) _ _ (sym c.eq.ensures ∙ h)
