use Rattle.html_encodings.specs.Labels.{labels}
use Rattle.html_encodings.proofs.encoding.encoding_of_label.Goals as goal

pub returns : goal.returns
unfolding labels
returns c = c.encoding_in.ensures
