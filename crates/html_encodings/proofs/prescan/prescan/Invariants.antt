use Rattle.std.proofs.Common.{◌≡◌, length}
use Rattle.css_text.specs.Reading.{each}
use Rattle.html_encodings.specs.Prescan.{next_piece, first_named}
use Rattle.html_encodings.proofs.prescan.prescan.Given as goal

abbrev pub invariant-pieces : goal.invariant-pieces
invariant-pieces l =
    first_named (each next_piece l.rest).0 ≡ first_named (each next_piece l.front).0

abbrev pub decreases-pieces : goal.decreases-pieces
decreases-pieces l = length l.rest
