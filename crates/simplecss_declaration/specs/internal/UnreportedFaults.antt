-- Calls that read without returning the fault.
use Rattle.std.specs.Prelude.{◌≡◌, ℕ, List, Bool, true, false, Option, Some, None}
use Rattle.css_text.specs.Reading.{Reading, got, fails}

-- the reading has failed, and this is left to read
abbrev pub FailsAt : {A : Type 0} → Reading A → List ℕ → Type 0
FailsAt (got x rest) left = ⊥
FailsAt (fails fault rest) left = left ≡ rest

-- A call returned `result` and left `left` to read, as the reading says: a value, or none if it
-- failed. `view` maps a value to what the definitions see of it.
abbrev pub Answers : {X A : Type 0} → (X → A) → Reading A → Option X → List ℕ → Type 0
Answers view reading (Some x) left = reading ≡ got (view x) left
Answers view reading None left = FailsAt reading left

-- The same of a call without a value, which returns whether the reading succeeded.
abbrev pub Passes : Reading (Unit {0}) → Bool → List ℕ → Type 0
Passes reading true left = reading ≡ got tt left
Passes reading false left = FailsAt reading left
