use Rattle.css_html.proofs.Edited.{taken_out-local}
use Rattle.css_html.proofs.laws.texts_taken_out_are_local.Goals as goal

pub returns : goal.returns
returns c = taken_out-local
