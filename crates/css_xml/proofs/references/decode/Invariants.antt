use Rattle.std.proofs.Common.{◌≡◌, ◌++◌, length}
use Rattle.css_xml.specs.References.{decoded}
use Rattle.css_xml.proofs.references.decode.Given as goal

abbrev pub invariant-parts : goal.invariant-parts
invariant-parts l = l.out.items ++ decoded l.kind l.rest ≡ l.initial.out.items ++ decoded l.kind l.bytes

abbrev pub decreases-parts : goal.decreases-parts
decreases-parts l = length l.rest
