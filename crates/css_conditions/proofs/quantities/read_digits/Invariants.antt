use Rattle.std.proofs.Common.{◌≡◌, ◌≤◌, length}
use Rattle.css_conditions.specs.Quantities.{digits_from}
use Rattle.css_conditions.proofs.quantities.read_digits.Given as goal

abbrev pub invariant-digits : goal.invariant-digits
invariant-digits l = record {
  read : digits_from l.digits l.scale l.rest ≡ digits_from l.so_far 1 l.bytes;
  few : l.digits ≤ 1000000000000000000;
  fine : l.scale ≤ 1000000000000000000;
}

abbrev pub decreases-digits : goal.decreases-digits
decreases-digits l = length l.rest
