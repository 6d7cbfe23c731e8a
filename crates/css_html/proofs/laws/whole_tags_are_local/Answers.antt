use Rattle.css_html.proofs.Alone.{whole-local}
use Rattle.css_html.proofs.laws.whole_tags_are_local.Goals as goal

pub returns : goal.returns
returns c = whole-local
