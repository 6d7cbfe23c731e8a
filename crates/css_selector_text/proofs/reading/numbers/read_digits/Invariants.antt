use Rattle.std.proofs.Common.{◌≡◌, length}
use denote.Text.{Utf8}
use denote.Shadow.{shadow}
use Rattle.css_selector_text.specs.reading.Grammar.{digits}
use Rattle.css_selector_text.proofs.reading.numbers.read_digits.Given as goal

abbrev pub invariant-digits : goal.invariant-digits
invariant-digits l = record {
  text : shadow (Utf8 l.rest);
  reads : digits l.so_far l.rest ≡ digits 0 l.text;
}

abbrev pub decreases-digits : goal.decreases-digits
decreases-digits l = length l.rest
