use Rattle.std.proofs.Common.{◌≡◌, length}
use Rattle.css_text.specs.Reading.{each}
use Rattle.css_syntax.specs.DeclarationLists.{separator_part}
use Rattle.css_syntax.proofs.declarations.past_separator_bytes.Given as goal

abbrev pub invariant-parts : goal.invariant-parts
invariant-parts l =
    (each separator_part l.rest).1 ≡ (each separator_part l.bytes).1

abbrev pub decreases-parts : goal.decreases-parts
decreases-parts l = length l.rest
