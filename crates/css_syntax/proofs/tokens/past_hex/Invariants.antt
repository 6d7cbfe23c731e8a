use Rattle.std.proofs.Common.{◌≡◌}
use Rattle.css_syntax.specs.Tokens.{past_hex}
use Rattle.css_syntax.proofs.tokens.past_hex.Given as goal

abbrev pub invariant-digits : goal.invariant-digits
invariant-digits l = past_hex l.left l.rest ≡ past_hex l.n l.bytes

abbrev pub decreases-digits : goal.decreases-digits
decreases-digits l = l.left
