use Rattle.std.proofs.Common.{◌≡◌, length}
use Rattle.css_xml.specs.Doctypes.{from_end}
use Rattle.css_xml.specs.declared.doctypes.Part.TheVariants.{Front}
use Rattle.css_xml.proofs.doctypes.from_doctype_end.Given as goal

abbrev pub invariant-doctype : goal.invariant-doctype
invariant-doctype l = from_end l.part l.rest ≡ from_end Front l.bytes

abbrev pub decreases-doctype : goal.decreases-doctype
decreases-doctype l = length l.rest
