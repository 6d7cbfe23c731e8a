-- What is kept with a text, and who answers.
use Rattle.std.specs.Prelude.{◌≡◌, ℕ, List, Vec, Option, None, Some}

-- the numbers are these, where some are kept
abbrev pub AreWritten : {Z : Type 0} → List ℕ → Option (Vec ℕ Z) → Type 0
AreWritten due None = Unit {0}
AreWritten due (Some numbers) = numbers.items ≡ due

-- a sheet answers, and where there is none there is no answer
abbrev pub IsAnsweredIfOpen : {A : Type 0} → (List ℕ → A → Type 0) → Option (List ℕ) → Option A → Type 0
IsAnsweredIfOpen IsAnswer None None = Unit {0}
IsAnsweredIfOpen IsAnswer None (Some answer) = ⊥
IsAnsweredIfOpen IsAnswer (Some text) None = ⊥
IsAnsweredIfOpen IsAnswer (Some text) (Some answer) = IsAnswer text answer
