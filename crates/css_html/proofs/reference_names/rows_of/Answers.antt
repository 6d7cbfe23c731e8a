use Rattle.css_html.specs.ReferenceNames.{names}
use Rattle.css_html.proofs.reference_names.rows_of.Goals as goal

pub returns : goal.returns
unfolding names
returns c = c.rows_in.ensures
