use Rattle.css_html.proofs.Between.{style-local}
use Rattle.css_html.proofs.laws.style_elements_are_local.Goals as goal

pub returns : goal.returns
returns c = style-local
