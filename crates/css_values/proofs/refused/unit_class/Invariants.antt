use Rattle.std.proofs.Common.{◌≡◌, length}
use denote.Text.{Utf8}
use denote.Shadow.{shadow}
use Rattle.css_values.specs.Refused.{unit_class}
use Rattle.css_values.proofs.RefusedLemmas.{class_from}
use Rattle.css_values.proofs.refused.unit_class.Given as goal

-- What is left decides.
abbrev pub invariant-lines : goal.invariant-lines
invariant-lines l = shadow (Utf8 l.rest) × (unit_class l.unit ≡ class_from l.rest l.unit)

abbrev pub decreases-lines : goal.decreases-lines
decreases-lines l = length l.rest
