use Rattle.std.proofs.Common.{◌≡◌, ◌≤◌, length}
use Rattle.css_xml.specs.References.{numbered}
use Rattle.css_xml.proofs.references.numbered.Given as goal

abbrev pub invariant-digits : goal.invariant-digits
invariant-digits l =
    (numbered l.hexadecimal l.number l.rest ≡ numbered l.hexadecimal 0 l.bytes) × (l.number ≤ 17825791)

abbrev pub decreases-digits : goal.decreases-digits
decreases-digits l = length l.rest
