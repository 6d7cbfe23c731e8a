use Rattle.css_html.proofs.Changed.{changed-local}
use Rattle.css_html.proofs.laws.changed_attributes_are_local.Goals as goal

pub returns : goal.returns
returns c = changed-local
