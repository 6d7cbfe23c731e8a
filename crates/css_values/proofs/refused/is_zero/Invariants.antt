use Rattle.std.proofs.Common.{◌≡◌, length}
use Rattle.css_values.specs.Refused.{is_zero}
use Rattle.css_values.proofs.refused.is_zero.Given as goal

-- What is left decides.
abbrev pub invariant-digits : goal.invariant-digits
invariant-digits l = is_zero l.number ≡ is_zero l.rest

abbrev pub decreases-digits : goal.decreases-digits
decreases-digits l = length l.rest
