-- When an attribute's value satisfies an operator: as a test, and as the meaning of that test.
use Rattle.std.specs.Prelude.{◌≡◌, ◌≢◌, ℕ, Bool, true, List, [], ◌∷◌, ◌++◌, ◌⊎◌, ◌||◌, ◌==◌, All, bytes_eq, nat_eq}
use Rattle.std.specs.List.{list_any, slice_split, starts_with}
use Rattle.css_text.specs.AsciiBytes.{space, hyphen}
use Rattle.simplecss_grammar.specs.Components.{Operator}
use Rattle.simplecss_grammar.specs.Components.Operator.{exists, equals, has_word, begins_with}

-- whether the word is one of those that single spaces separate in the value
abbrev pub is_word_of : List ℕ → List ℕ → Bool
is_word_of word value =
    list_any (λ entry. bytes_eq entry word) (slice_split (λ b. b == space) value)

-- whether the value satisfies the operator: any value; the same bytes; the word is one of its
-- words; the same bytes, or these and then a hyphen at its start
abbrev pub is_satisfied : Operator → List ℕ → Bool
is_satisfied exists value = true
is_satisfied (equals text) value = bytes_eq value text
is_satisfied (has_word word) value = is_word_of word value
is_satisfied (begins_with start) value =
    bytes_eq value start || starts_with nat_eq value (start ++ hyphen ∷ [])

-- nothing, or a text whose last byte is a space
abbrev pub IsUpToSpace : List ℕ → Type 0
IsUpToSpace x = (x ≡ []) ⊎ ((z : List ℕ) × (x ≡ z ++ space ∷ []))

-- nothing, or a text whose first byte is a space
abbrev pub IsFromSpace : List ℕ → Type 0
IsFromSpace y = (y ≡ []) ⊎ ((z : List ℕ) × (y ≡ space ∷ z))

-- the word occurs in the text between spaces or ends
abbrev pub OccursIn : List ℕ → List ℕ → Type 0
OccursIn word text =
    (x : List ℕ) × (y : List ℕ) × (text ≡ x ++ (word ++ y)) × IsUpToSpace x × IsFromSpace y

-- the meaning of the test: any value; the text itself; the word has no space and occurs in the
-- value between spaces or ends; the text itself, or the text and then a hyphen
abbrev pub IsSatisfied : Operator → List ℕ → Type 0
IsSatisfied exists value = Unit {0}
IsSatisfied (equals text) value = value ≡ text
IsSatisfied (has_word word) value = All (λ b. b ≢ space) word × OccursIn word value
IsSatisfied (begins_with start) value =
    (value ≡ start) ⊎ ((rest : List ℕ) × (value ≡ start ++ hyphen ∷ rest))
