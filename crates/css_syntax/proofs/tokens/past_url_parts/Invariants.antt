use Rattle.std.proofs.Common.{◌≡◌, length}
use Rattle.css_text.specs.Reading.{each}
use Rattle.css_syntax.specs.Tokens.{url_part}
use Rattle.css_syntax.proofs.tokens.past_url_parts.Given as goal

abbrev pub invariant-parts : goal.invariant-parts
invariant-parts l = (each url_part l.rest).1 ≡ (each url_part l.bytes).1

abbrev pub decreases-parts : goal.decreases-parts
decreases-parts l = length l.rest
