use Rattle.std.proofs.Common.{◌≡◌, false, length}
use Rattle.css_text.specs.Reading.{each}
use Rattle.css_text.specs.Bytes.{starts_by}
use Rattle.css_syntax.specs.Tokens.{is_name_byte, name_part}
use Rattle.css_syntax.proofs.tokens.past_word.Given as goal

abbrev pub invariant-parts : goal.invariant-parts
invariant-parts l = record {
  left : (each name_part l.rest).1 ≡ (each name_part l.bytes).1;
  ran : starts_by is_name_byte l.rest ≡ false;
}

abbrev pub decreases-parts : goal.decreases-parts
decreases-parts l = length l.rest
