use Rattle.std.proofs.Common.{◌≡◌, length}
use denote.Text.{Utf8}
use denote.Shadow.{shadow}
use Rattle.css_values.specs.Names.{longhands_in}
use Rattle.css_values.proofs.names.longhands_in.Given as goal

-- What is left decides.
abbrev pub invariant-rows : goal.invariant-rows
invariant-rows l = shadow (Utf8 l.rest) × (longhands_in l.table l.name ≡ longhands_in l.rest l.name)

abbrev pub decreases-rows : goal.decreases-rows
decreases-rows l = length l.rest
