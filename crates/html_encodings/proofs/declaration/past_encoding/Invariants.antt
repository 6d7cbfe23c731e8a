use Rattle.std.proofs.Common.{◌≡◌, length}
use Rattle.html_encodings.specs.Declaration.{past_encoding}
use Rattle.html_encodings.proofs.declaration.past_encoding.Given as goal

abbrev pub invariant-encoding : goal.invariant-encoding
invariant-encoding l = past_encoding l.rest ≡ past_encoding l.bytes

abbrev pub decreases-encoding : goal.decreases-encoding
decreases-encoding l = length l.rest
