use Rattle.css_html.proofs.Between.{style-out}
use Rattle.css_html.proofs.laws.style_elements_out_are_local.Goals as goal

pub returns : goal.returns
returns c = style-out
