use Rattle.std.proofs.Common.{◌≡◌, true, length}
use Rattle.html_encodings.specs.Finding.{is_listed_from}
use Rattle.html_encodings.proofs.encoding.is_listed.Given as goal

abbrev pub invariant-words : goal.invariant-words
invariant-words l = is_listed_from l.begins l.rest l.label ≡ is_listed_from true l.words l.label

abbrev pub decreases-words : goal.decreases-words
decreases-words l = length l.rest
