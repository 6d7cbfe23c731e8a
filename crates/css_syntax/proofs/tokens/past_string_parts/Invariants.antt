use Rattle.std.proofs.Common.{◌≡◌, length}
use Rattle.css_text.specs.Reading.{each}
use Rattle.css_syntax.specs.Tokens.{string_part}
use Rattle.css_syntax.proofs.tokens.past_string_parts.Given as goal

abbrev pub invariant-parts : goal.invariant-parts
invariant-parts l = (each (string_part l.quote) l.rest).1 ≡ (each (string_part l.quote) l.bytes).1

abbrev pub decreases-parts : goal.decreases-parts
decreases-parts l = length l.rest
