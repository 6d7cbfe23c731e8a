use Rattle.css_html.proofs.Inserted.{replaced-local}
use Rattle.css_html.proofs.laws.replaced_tags_are_local.Goals as goal

pub returns : goal.returns
returns c = replaced-local
