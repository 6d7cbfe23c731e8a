-- Whether a value can be declared at all (CSS Custom Properties for Cascading Variables 1, section 3).
use Rattle.std.specs.Prelude.{ℕ, zero, suc, Bool, true, false, ◌&&◌, List, [], ◌∷◌, Option, Some, None}
use Rattle.css_syntax.specs.Escapes.{decoded}
use Rattle.css_values.specs.Pieces.{Piece, plain, reference, broken, pieces}
use Rattle.css_values.specs.Substitution.{is_custom_name}

-- there is no fallback, or it is valid
abbrev pub fallback_valid : (List ℕ → Bool) → Option (List ℕ) → Bool
fallback_valid valid None = true
fallback_valid valid (Some text) = valid text

-- a reference names a custom property, and its fallback is valid, whether it is needed or not
abbrev pub piece_valid : (List ℕ → Bool) → Piece → Bool
piece_valid valid (plain text) = true
piece_valid valid (reference name fallback) =
    is_custom_name (decoded name) && fallback_valid valid fallback
piece_valid valid broken = false

abbrev pub all_valid : (Piece → Bool) → List Piece → Bool
all_valid valid [] = true
all_valid valid (p ∷ more) = valid p && all_valid valid more

-- all of a value's references are valid, with fallbacks nested less than `n` deep
unfoldable pub is_valid : ℕ → List ℕ → Bool
is_valid zero text = false
is_valid (suc n) text = all_valid (piece_valid (is_valid n)) (pieces text)
