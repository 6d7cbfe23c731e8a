use Rattle.css_html.proofs.Edited.{style-read}
use Rattle.css_html.proofs.laws.style_elements_are_read.Goals as goal

pub returns : goal.returns
returns c = style-read
