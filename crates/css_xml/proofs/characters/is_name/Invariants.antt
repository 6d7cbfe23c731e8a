use Rattle.std.proofs.Common.{◌≡◌, length}
use Rattle.css_xml.specs.Characters.{name_from, is_name}
use Rattle.css_xml.proofs.characters.is_name.Given as goal

abbrev pub invariant-characters : goal.invariant-characters
invariant-characters l = name_from l.is_first l.spelled l.rest ≡ is_name l.bytes

abbrev pub decreases-characters : goal.decreases-characters
decreases-characters l = length l.rest
