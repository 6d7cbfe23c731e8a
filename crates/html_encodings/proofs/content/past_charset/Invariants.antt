use Rattle.std.proofs.Common.{◌≡◌, length}
use Rattle.html_encodings.specs.Finding.{past_charset}
use Rattle.html_encodings.proofs.content.past_charset.Given as goal

abbrev pub invariant-charset : goal.invariant-charset
invariant-charset l = past_charset l.rest ≡ past_charset l.bytes

abbrev pub decreases-charset : goal.decreases-charset
decreases-charset l = length l.rest
