use Rattle.std.proofs.Common.{◌≡◌, drop}
use Rattle.css_index.specs.KeyNumbers.{number_from}
use Rattle.css_index.proofs.key_numbers.number_from.Given as goal

-- the number is that of what is left, from the number so far on
abbrev pub invariant-loop-byte : goal.invariant-loop-byte
invariant-loop-byte l = number_from l.kind l.text ≡ number_from l.number (drop l.byte-index l.text)
