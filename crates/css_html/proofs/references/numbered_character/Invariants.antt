use Rattle.std.proofs.Common.{◌≡◌, ◌≤◌, length}
use Rattle.css_html.specs.References.{character_of, number_of, digits_of, past_digits}
use Rattle.css_html.proofs.references.numbered_character.Given as goal

abbrev pub invariant-digits : goal.invariant-digits
invariant-digits l = record {
  character : character_of (number_of l.hexadecimal l.number (digits_of l.hexadecimal l.rest))
      ≡ character_of (number_of l.hexadecimal 0 (digits_of l.hexadecimal l.bytes));
  left : past_digits l.hexadecimal l.rest ≡ past_digits l.hexadecimal l.bytes;
  small : l.number ≤ 17825791;
}

abbrev pub decreases-digits : goal.decreases-digits
decreases-digits l = length l.rest
