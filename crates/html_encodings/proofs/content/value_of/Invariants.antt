use Rattle.std.proofs.Common.{◌≡◌, length}
use Rattle.css_html.specs.Attributes.{attributes}
use Rattle.html_encodings.specs.Finding.{value_in}
use Rattle.html_encodings.proofs.content.value_of.Given as goal

abbrev pub invariant-attributes : goal.invariant-attributes
invariant-attributes l =
    value_in l.name (attributes l.rest) ≡ value_in l.name (attributes l.bytes)

abbrev pub decreases-attributes : goal.decreases-attributes
decreases-attributes l = length l.rest
