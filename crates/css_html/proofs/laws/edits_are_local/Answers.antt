use Rattle.css_html.proofs.Edited.{edits-local}
use Rattle.css_html.proofs.laws.edits_are_local.Goals as goal

pub returns : goal.returns
returns c = edits-local
