use Rattle.std.proofs.Common.{map, length}
use Rattle.css_text.proofs.reading.EachLemmas.{Done}
use Rattle.css_html.specs.Attributes.{next_attribute}
use Rattle.css_html.specs.Views.{attribute_of}
use Rattle.html_edits.proofs.attributes.attributes_from.Given as goal

abbrev pub invariant-attributes : goal.invariant-attributes
invariant-attributes l = Done next_attribute (map attribute_of l.found.items) l.rest l.bytes

abbrev pub decreases-attributes : goal.decreases-attributes
decreases-attributes l = length l.rest
