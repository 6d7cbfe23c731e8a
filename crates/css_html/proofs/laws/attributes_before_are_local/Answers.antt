use Rattle.css_html.proofs.Changed.{attributes-before}
use Rattle.css_html.proofs.laws.attributes_before_are_local.Goals as goal

pub returns : goal.returns
returns c = attributes-before
