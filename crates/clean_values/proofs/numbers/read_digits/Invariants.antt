use Rattle.std.proofs.Common.{◌≡◌, ◌≤◌, length}
use Rattle.clean_values.specs.Limits.{digits_from}
use Rattle.clean_values.proofs.numbers.read_digits.Given as goal

-- What is left decides, after the digits so far.
abbrev pub invariant-digits : goal.invariant-digits
invariant-digits l = record {
  read : digits_from 0 0 l.bytes ≡ digits_from l.so_far l.scale l.rest;
  few : l.so_far ≤ 1000000000000000;
  fine : l.scale ≤ 1000000000000000;
}

abbrev pub decreases-digits : goal.decreases-digits
decreases-digits l = length l.rest
