use Rattle.std.proofs.Common.{◌≡◌, length, map}
use Rattle.css_html.specs.ReferenceNames.{rows_in}
use Rattle.css_html.proofs.reference_names.rows_in.Given as goal

abbrev pub invariant-letters : goal.invariant-letters
invariant-letters l =
    rows_in l.letter (map (λ one. one.now) l.left) ≡ rows_in l.letter (map (λ one. one.now) l.table)

abbrev pub decreases-letters : goal.decreases-letters
decreases-letters l = length l.left
