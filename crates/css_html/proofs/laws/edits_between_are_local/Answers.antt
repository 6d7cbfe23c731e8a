use Rattle.css_html.proofs.Between.{between-local}
use Rattle.css_html.proofs.laws.edits_between_are_local.Goals as goal

pub returns : goal.returns
returns c = between-local
