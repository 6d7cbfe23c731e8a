use Rattle.css_html.proofs.Edited.{put_in-local}
use Rattle.css_html.proofs.laws.texts_put_in_are_local.Goals as goal

pub returns : goal.returns
returns c = put_in-local
