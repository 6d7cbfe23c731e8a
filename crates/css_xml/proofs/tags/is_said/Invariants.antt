use Rattle.std.proofs.Common.{◌≡◌, length}
use Rattle.css_xml.specs.Tags.{is_said}
use Rattle.css_xml.proofs.tags.is_said.Given as goal

abbrev pub invariant-bytes : goal.invariant-bytes
invariant-bytes l = is_said l.in_value l.rest ≡ is_said l.in_value l.bytes

abbrev pub decreases-bytes : goal.decreases-bytes
decreases-bytes l = length l.rest
