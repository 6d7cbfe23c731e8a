-- What a call reports by an error.
-- Serves `SelectorTokenizer::{next_open, next_closed, next_joined}` (the error that they return).
use Rattle.std.proofs.Common.{◌≡◌, List, ℕ, ap, sym}
use Rattle.css_text.specs.Reading.{Fault, Reading, got, fails}
use Rattle.css_text.specs.Errors.{error_of, FailsBy}
use Rattle.css_text.specs.declared.error.Error.{Error}

-- a call that answers an error has read a fault
pub fails_by-fault : {A : Type 0} (text : List ℕ) (r : Reading A) (error : Error) (left : List ℕ)
    → FailsBy text r error left → (fault : Fault) × (r ≡ fails fault left)
    × (error ≡ error_of text fault)
fails_by-fault text (got x rest) error left h = absurd h
fails_by-fault text (fails fault rest) error left h =
    (fault, ap (λ (t : List ℕ). fails fault t) (sym h.1), h.0)
