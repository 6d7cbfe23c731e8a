use Rattle.std.proofs.Common.{◌≡◌, length}
use Rattle.css_html.specs.Attributes.{attributes}
use Rattle.css_xml.specs.Tags.{are_parted}
use Rattle.css_xml.proofs.tags.are_attributes.Given as goal

abbrev pub invariant-attributes : goal.invariant-attributes
invariant-attributes l = are_parted l.last (attributes l.last) l.end ≡ are_parted l.bytes (attributes l.bytes) l.end

abbrev pub decreases-attributes : goal.decreases-attributes
decreases-attributes l = length l.last
