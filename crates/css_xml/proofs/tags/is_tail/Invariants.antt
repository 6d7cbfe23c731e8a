use Rattle.std.proofs.Common.{◌≡◌, length}
use Rattle.css_xml.specs.Tags.{is_tail}
use Rattle.css_xml.proofs.tags.is_tail.Given as goal

abbrev pub invariant-blanks : goal.invariant-blanks
invariant-blanks l = is_tail l.rest ≡ is_tail l.bytes

abbrev pub decreases-blanks : goal.decreases-blanks
decreases-blanks l = length l.rest
