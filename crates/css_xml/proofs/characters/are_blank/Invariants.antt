use Rattle.std.proofs.Common.{◌≡◌, length}
use Rattle.css_xml.specs.Characters.{are_blank}
use Rattle.css_xml.proofs.characters.are_blank.Given as goal

abbrev pub invariant-blanks : goal.invariant-blanks
invariant-blanks l = are_blank l.rest ≡ are_blank l.bytes

abbrev pub decreases-blanks : goal.decreases-blanks
decreases-blanks l = length l.rest
