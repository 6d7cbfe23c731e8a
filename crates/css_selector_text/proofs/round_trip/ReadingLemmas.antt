-- Readers one after another.
-- Serves `printing_laws::printing_law`.
use Rattle.std.proofs.Common.{◌≡◌, ℕ, List, refl}
use Rattle.css_selector_text.specs.reading.Readings.{Reading, got, refused, Reader, follow}

-- what is read after another was read after it
pub record Followed {A B : Type 0} (r : Reading A) (next : A
    → Reader B) (y : B) (rest : List ℕ) : Type 0 where
  pub value : A
  pub middle : List ℕ
  pub first : r ≡ got value middle
  pub second : next value middle ≡ got y rest

pub followed : {A B : Type 0} (r : Reading A) (next : A → Reader B) (y : B) (rest : List ℕ)
    → follow r next ≡ got y rest → Followed r next y rest
followed (got x mid) next y rest h =
    record { value = x; middle = mid; first = refl; second = h }
followed (refused why mid) next y rest h = absurd (cc)
