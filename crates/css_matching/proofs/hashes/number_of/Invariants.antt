use Rattle.std.proofs.Common.{◌≡◌, drop}
use Rattle.css_matching.specs.Hashes.{number_from}
use Rattle.css_matching.proofs.hashes.number_of.Given as goal

-- the number is that of what is left, from the number so far on
abbrev pub invariant-loop-byte : goal.invariant-loop-byte
invariant-loop-byte l = number_from 0 l.text ≡ number_from l.number (drop l.byte-index l.text)
