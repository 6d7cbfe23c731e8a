-- Texts that occur in another, one after the other.
use Rattle.std.specs.Prelude.{◌≡◌, ℕ, List, [], ◌∷◌}
use Rattle.css_text.specs.Reading.{before, Ends}

-- These texts occur, in order, in what is consumed from one rest of a text to a later one: each is
-- what precedes some rest, and the next one begins no earlier than that rest.
abbrev pub OccurBetween : (from to : List ℕ) → List (List ℕ) → Type 0
OccurBetween from to [] = Ends from to
OccurBetween from to (s ∷ ss) =
    (start : List ℕ) × (end : List ℕ) × Ends from start × Ends start end × (s ≡ before start end)
    × OccurBetween end to ss
