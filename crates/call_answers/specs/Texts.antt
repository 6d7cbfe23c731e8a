-- Texts that follow one another in one buffer.
use Rattle.std.specs.Prelude.{ℕ, ◌&&◌, ◌==◌, nat_le, if◌then◌else◌, List, [], ◌∷◌, length, Option, None, Some}
use Rattle.std.specs.List.{slice_range}
use Rattle.std.specs.Option.{option_map}

-- The texts with these ends, the first of which begins at `start` and each other one at the end of
-- the one before. There are none if an end is before the one in front of it or past the end of the
-- buffer, or if the last is not the end of the buffer.
abbrev pub texts_from : List ℕ → ℕ → List ℕ → Option (List (List ℕ))
texts_from buffer start [] = if start == length buffer then Some [] else None
texts_from buffer start (end ∷ ends) =
    if nat_le start end && nat_le end (length buffer)
    then option_map (λ texts. slice_range buffer start end ∷ texts) (texts_from buffer end ends)
    else None

-- the texts of a buffer, by their ends
abbrev pub texts_in : List ℕ → List ℕ → Option (List (List ℕ))
texts_in buffer ends = texts_from buffer 0 ends
