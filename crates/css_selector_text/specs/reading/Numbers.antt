-- The numbers of siblings that `An+B` names (section 6.6.5.2).
use Rattle.std.specs.Prelude.{◌≡◌, ℕ, ◌+◌, ◌-◌, ◌*◌, ◌%◌, Bool, ◌&&◌, ◌==◌, nat_le, if◌then◌else◌}
use Rattle.css_selector_text.specs.Components.{Signed, Progression}

-- how far a number is above 0, and how far below
abbrev pub above : Signed → ℕ
above s = if s.is_negative then 0 else s.size

abbrev pub below : Signed → ℕ
below s = if s.is_negative then s.size else 0

-- The number is A times some n from 0 on, plus B: what is subtracted stands at the left.
abbrev pub IsNumbered : Progression → ℕ → Type 0
IsNumbered p number =
    (n : ℕ) × (number + below p.step * n + below p.offset ≡ above p.step * n + above p.offset)

-- the number is a multiple of the size; of 0 only 0 is one
abbrev pub is_multiple : ℕ → ℕ → Bool
is_multiple size number = if size == 0 then number == 0 else number % size == 0

-- from `low` to `high` are steps of this size
abbrev pub is_steps : ℕ → ℕ → ℕ → Bool
is_steps size low high = nat_le low high && is_multiple size (high - low)

-- the same as a test
abbrev pub is_numbered : Progression → ℕ → Bool
is_numbered p number =
    if p.step.is_negative
    then is_steps p.step.size (number + below p.offset) (above p.offset)
    else is_steps p.step.size (above p.offset) (number + below p.offset)
