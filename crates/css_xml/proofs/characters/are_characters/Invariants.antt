use Rattle.std.proofs.Common.{◌≡◌, length}
use Rattle.css_xml.specs.Characters.{are_characters}
use Rattle.css_xml.proofs.characters.are_characters.Given as goal

abbrev pub invariant-characters : goal.invariant-characters
invariant-characters l = are_characters l.rest ≡ are_characters l.bytes

abbrev pub decreases-characters : goal.decreases-characters
decreases-characters l = length l.rest
