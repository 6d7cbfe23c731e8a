use Rattle.std.proofs.Common.{rules, sym, ◌∙◌}
use denote.Enum.Bare.{same_true}
use Rattle.css_syntax.specs.contracts.quality.Quality.{the_type}
use Rattle.css_edits.proofs.same.is_same_quality.Goals as goal

pub returns : goal.returns
returns c = λ h. same_true the_type (search rules) _ _ (sym c.eq.ensures ∙ h)
