use Rattle.std.proofs.Common.{◌≡◌, length}
use Rattle.css_text.specs.Reading.{each}
use Rattle.css_syntax.specs.Tokens.{remnant_part}
use Rattle.css_syntax.proofs.tokens.past_remnants.Given as goal

abbrev pub invariant-parts : goal.invariant-parts
invariant-parts l = (each remnant_part l.rest).1 ≡ (each remnant_part l.bytes).1

abbrev pub decreases-parts : goal.decreases-parts
decreases-parts l = length l.rest
