use Rattle.std.proofs.Common.{◌≡◌, length}
use denote.Text.{Utf8}
use denote.Shadow.{shadow}
use Rattle.css_values.specs.Names.{is_named_in}
use Rattle.css_values.proofs.names.is_named_in.Given as goal

-- What is left decides.
abbrev pub invariant-names : goal.invariant-names
invariant-names l = shadow (Utf8 l.rest) × (is_named_in l.names l.name ≡ is_named_in l.rest l.name)

abbrev pub decreases-names : goal.decreases-names
decreases-names l = length l.rest
