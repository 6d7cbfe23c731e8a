-- Words that are no operands of a command.
-- Serves `Command::of` (which words are a command).
use Rattle.std.proofs.Common.{◌≡◌, ℕ, ◌<◌, List, [], ◌∷◌, length, None, refl, arith}
use Rattle.cssq.specs.Command.{match_of, style_of}

pub match_of_few : (words : List (List ℕ)) → length words < 2 → match_of words ≡ None
match_of_few [] few = refl
match_of_few (a ∷ []) few = refl
match_of_few (a ∷ b ∷ words) few = absurd (omega arith)

pub match_of_many : (words : List (List ℕ)) → 2 < length words → match_of words ≡ None
match_of_many [] many = absurd (omega arith)
match_of_many (a ∷ []) many = absurd (omega arith)
match_of_many (a ∷ b ∷ []) many = absurd (omega arith)
match_of_many (a ∷ b ∷ d ∷ words) many = refl

pub style_of_few : (words : List (List ℕ)) → length words < 3 → style_of words ≡ None
style_of_few [] few = refl
style_of_few (a ∷ []) few = refl
style_of_few (a ∷ b ∷ []) few = refl
style_of_few (a ∷ b ∷ d ∷ words) few = absurd (omega arith)

pub style_of_many : (words : List (List ℕ)) → 3 < length words → style_of words ≡ None
style_of_many [] many = absurd (omega arith)
style_of_many (a ∷ []) many = absurd (omega arith)
style_of_many (a ∷ b ∷ []) many = absurd (omega arith)
style_of_many (a ∷ b ∷ d ∷ []) many = absurd (omega arith)
style_of_many (a ∷ b ∷ d ∷ e ∷ words) many = refl
