use Rattle.std.proofs.Common.{◌≡◌, length}
use denote.Text.{Utf8}
use denote.Shadow.{shadow}
use Rattle.css_values.specs.Pieces.{pieces}
use Rattle.css_values.specs.Registrations.{is_plain}
use Rattle.css_values.specs.Validity.{all_valid}
use Rattle.css_values.proofs.registering.has_no_reference.Given as goal

-- What is left decides.
abbrev pub invariant-pieces : goal.invariant-pieces
invariant-pieces l =
    shadow (Utf8 l.rest) × (all_valid is_plain (pieces l.rest) ≡ all_valid is_plain (pieces l.text))

abbrev pub decreases-pieces : goal.decreases-pieces
decreases-pieces l = length l.rest
