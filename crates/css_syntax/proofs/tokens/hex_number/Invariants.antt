use Rattle.std.proofs.Common.{◌≡◌, ◌-◌, ◌<◌, ◌≤◌, ◌^◌}
use Rattle.css_syntax.specs.Tokens.{hex_number}
use Rattle.css_syntax.proofs.tokens.hex_number.Given as goal

abbrev pub invariant-digits : goal.invariant-digits
invariant-digits l = record {
  reads : hex_number l.left l.so_far l.rest ≡ hex_number 6 0 l.bytes;
  few : l.left ≤ 6;
  small : l.so_far < 16 ^ (6 - l.left);
}

abbrev pub decreases-digits : goal.decreases-digits
decreases-digits l = l.left
