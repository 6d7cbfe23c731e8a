-- Readings that fail.
-- Serves `reader::read_value` (a term that fails, fails the value).
use Rattle.std.proofs.Common.{◌≡◌, ℕ, List, Bool, true, false, sym, ap}
use Rattle.css_text.specs.Reading.{Fault, Reading, got, fails}
use Rattle.simplecss_declaration.specs.internal.UnreportedFaults.{FailsAt, Passes}

-- there is a fault
pub failed : {A : Type 0} (r : Reading A) (left : List ℕ) → FailsAt r left
    → (fault : Fault) × (r ≡ fails fault left)
failed (got x rest) left h = absurd h
failed (fails fault rest) left h = (fault, ap (λ (t : List ℕ). fails fault t) (sym h))

pub passed : (r : Reading (Unit {0})) (result : Bool) (left : List ℕ) → Passes r result left
    → result ≡ true → r ≡ got tt left
passed r true left h e = h
passed r false left h e = absurd (cc)

pub not_passed : (r : Reading (Unit {0})) (result : Bool) (left : List ℕ) → Passes r result left
    → result ≡ false → FailsAt r left
not_passed r true left h e = absurd (cc)
not_passed r false left h e = h
