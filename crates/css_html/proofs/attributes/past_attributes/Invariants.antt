use Rattle.std.proofs.Common.{◌≡◌, length}
use Rattle.css_text.specs.Reading.{each}
use Rattle.css_html.specs.Attributes.{next_attribute}
use Rattle.css_html.proofs.attributes.past_attributes.Given as goal

abbrev pub invariant-attributes : goal.invariant-attributes
invariant-attributes l = (each next_attribute l.rest).1 ≡ (each next_attribute l.bytes).1

abbrev pub decreases-attributes : goal.decreases-attributes
decreases-attributes l = length l.rest
