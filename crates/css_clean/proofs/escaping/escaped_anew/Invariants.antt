use Rattle.std.proofs.Common.{◌≡◌, ◌++◌, length}
use Rattle.css_clean.specs.Escaping.{escaped_anew}
use Rattle.css_clean.proofs.escaping.escaped_anew.Given as goal

-- What is written, and what is left.
abbrev pub invariant-bytes : goal.invariant-bytes
invariant-bytes l = escaped_anew l.text ≡ l.out.items ++ escaped_anew l.rest

abbrev pub decreases-bytes : goal.decreases-bytes
decreases-bytes l = length l.rest
