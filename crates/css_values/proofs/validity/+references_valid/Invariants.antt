use Rattle.std.proofs.Common.{◌≡◌, ◌-◌, ◌+◌, ◌*◌, length}
use denote.Text.{Utf8}
use denote.Shadow.{shadow}
use Rattle.css_values.specs.Validity.{is_valid}
use Rattle.css_values.proofs.ValidLemmas.{valid_from}
use Rattle.css_values.proofs.validity.+references_valid.Given as goal

abbrev pub decreases-references_valid : goal.decreases-references_valid
decreases-references_valid l = 2 * l.depth

abbrev pub decreases-piece_valid : goal.decreases-piece_valid
decreases-piece_valid l = 2 * l.depth + 1

-- What is left decides.
abbrev pub invariant-references_valid-pieces : goal.invariant-references_valid-pieces
invariant-references_valid-pieces l =
    shadow (Utf8 l.rest) × (valid_from (l.depth - 1) l.rest ≡ is_valid l.depth l.text)

abbrev pub decreases-references_valid-pieces : goal.decreases-references_valid-pieces
decreases-references_valid-pieces l = length l.rest
