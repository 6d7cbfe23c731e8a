use Rattle.std.proofs.Common.{◌≡◌, length}
use Rattle.css_text.specs.Reading.{each}
use Rattle.css_syntax.specs.Statements.{between_part}
use Rattle.css_syntax.proofs.statements.past_between_bytes.Given as goal

abbrev pub invariant-parts : goal.invariant-parts
invariant-parts l =
    (each (between_part l.in_block) l.rest).1 ≡ (each (between_part l.in_block) l.bytes).1

abbrev pub decreases-parts : goal.decreases-parts
decreases-parts l = length l.rest
