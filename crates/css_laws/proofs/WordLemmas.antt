-- Whether a word is one of a value's, as both tests say it of values whose white space is spaces.
-- Serves `converted_law`.
use Rattle.std.proofs.Common.{◌≡◌, ◌≢◌, ℕ, ◌==◌, Bool, true, false, ◌&&◌, List, [], ◌∷◌, refl, sym, ap, ◌∙◌, arith}
use Rattle.std.specs.Prelude.{bytes_eq, ◌||◌, not, cond}
use Rattle.std.specs.List.{list_any, slice_split, onto_first}
use Rattle.std.proofs.Math.Bool.{and_assoc}
use Rattle.std.proofs.lemmas.Bool.{or_parts, eqb-true}
use Rattle.std.proofs.lemmas.Bool.Decides.{nat_tests}
use Rattle.std.proofs.lemmas.List.Elements.{All-head, All-tail}
use Rattle.css_text.specs.AsciiBytes.{space}
use Rattle.css_text.specs.Characters.{is_space}
use Rattle.simplecss_selector.specs.Operators.{is_word_of as port_is_word_of}
use Rattle.css_selector_text.specs.AttributeTests.{begins, begins_up_to, is_word_of, is_some_text}
use Rattle.css_laws.specs.OneTree.{HasOnlySpaces}

pub turned : (x y : ℕ) → (x == y) ≡ (y == x)
turned x y = grind (arith, nat_tests)

and-false : (a : Bool) → (a && false) ≡ false
and-false true = refl
and-false false = refl

-- the parts of a value that spaces separate
abbrev parts : List ℕ → List (List ℕ)
parts value = slice_split (λ b. b == space) value

-- whether the first part is the word
abbrev is_first : List ℕ → List (List ℕ) → Bool
is_first word [] = bytes_eq [] word
is_first word (p ∷ ps) = bytes_eq p word

-- whether one of the others is
abbrev is_later : List ℕ → List (List ℕ) → Bool
is_later word [] = false
is_later word (p ∷ ps) = list_any (λ part. bytes_eq part word) ps

later_onto : (word : List ℕ) (b : ℕ) (ps : List (List ℕ))
    → is_later word (onto_first b ps) ≡ is_later word ps
later_onto word b [] = refl
later_onto word b (p ∷ ps) = refl

first_onto : (x b : ℕ) (word : List ℕ) (ps : List (List ℕ))
    → is_first (x ∷ word) (onto_first b ps) ≡ ((b == x) && is_first word ps)
first_onto x b word [] = refl
first_onto x b word (p ∷ ps) = refl

first_onto-nil : (b : ℕ) (ps : List (List ℕ)) → is_first [] (onto_first b ps) ≡ false
first_onto-nil b [] = refl
first_onto-nil b (p ∷ ps) = refl

any_onto : (word : List ℕ) (b : ℕ) (ps : List (List ℕ))
    → list_any (λ part. bytes_eq part word) (onto_first b ps)
    ≡ (is_first word (onto_first b ps) || is_later word (onto_first b ps))
any_onto word b [] = refl
any_onto word b (p ∷ ps) = refl

any_of_parts : (word value : List ℕ)
    → port_is_word_of word value ≡ (is_first word (parts value) || is_later word (parts value))
any_of_parts word [] = refl
any_of_parts word (b ∷ value) =
    elim (b == space) as (λ t. list_any (λ part. bytes_eq part word)
    (cond t ([] ∷ parts value) (onto_first b (parts value)))
    ≡ (is_first word (cond t ([] ∷ parts value) (onto_first b (parts value)))
    || is_later word (cond t ([] ∷ parts value) (onto_first b (parts value))))) [
      | true ↦ refl
      | false ↦ any_onto word b (parts value)
    ]

-- a space is no byte of a word that has none
differs : (x b : ℕ) → is_space x ≡ false → is_space b ≡ true → (x == b) ≡ false
differs x b word value = go (x == b) refl
  where
    go : (t : Bool) → (x == b) ≡ t → (x == b) ≡ false
    go true e = absurd (let same = ap is_space (eqb-true x b e) in cc)
    go false e = e

-- The first part is the word exactly if the value begins with it, and then it ends or a space follows.
first_is : (word value : List ℕ) → list_any is_space word ≡ false → HasOnlySpaces value
    → is_first word (parts value) ≡ begins_up_to is_space false word value
first_is [] [] none only = refl
first_is (x ∷ word) [] none only = refl
first_is [] (b ∷ value) none only =
    go (b == space) (All-head (λ b. is_space b ≡ (b == space)) b value only)
  where
    go : (t : Bool) → is_space b ≡ t
        → is_first [] (cond t ([] ∷ parts value) (onto_first b (parts value))) ≡ is_space b
    go true e = sym e
    go false e = first_onto-nil b (parts value) ∙ sym e
first_is (x ∷ word) (b ∷ value) none only =
    let apart = or_parts (is_space x) (list_any is_space word) none in
    go apart.0
    (first_is word value apart.1 (All-tail (λ b. is_space b ≡ (b == space)) b value only))
    (b == space) (All-head (λ b. is_space b ≡ (b == space)) b value only)
  where
    go : is_space x ≡ false → is_first word (parts value) ≡ begins_up_to is_space false word value
        → (t : Bool) → is_space b ≡ t
        → is_first (x ∷ word) (cond t ([] ∷ parts value) (onto_first b (parts value)))
        ≡ begins_up_to is_space false (x ∷ word) (b ∷ value)
    go apart rest true e = rw (differs x b apart e) refl
    go apart rest false e =
        first_onto x b word (parts value)
        ∙ ap (λ p. p && is_first word (parts value)) (turned b x)
        ∙ ap (λ p. (x == b) && p) rest
        ∙ sym (and_assoc (x == b) (begins false word value) _)

-- where a word may begin, it is the first or a later one
begins_or_later : (x : ℕ) (word value : List ℕ)
    → is_word_of true false (x ∷ word) value
    ≡ (begins_up_to is_space false (x ∷ word) value || is_word_of false false (x ∷ word) value)
begins_or_later x word [] = refl
begins_or_later x word (b ∷ value) = refl

-- and one of the others exactly if it is a word after white space
later_is : (x : ℕ) (word value : List ℕ) → list_any is_space (x ∷ word) ≡ false → HasOnlySpaces value
    → is_later (x ∷ word) (parts value) ≡ is_word_of false false (x ∷ word) value
later_is x word [] none only = refl
later_is x word (b ∷ value) none only =
    let tail = All-tail (λ b. is_space b ≡ (b == space)) b value only in
    go (first_is (x ∷ word) value none tail) (later_is x word value none tail) (b == space)
    (All-head (λ b. is_space b ≡ (b == space)) b value only)
  where
    go : is_first (x ∷ word) (parts value) ≡ begins_up_to is_space false (x ∷ word) value
        → is_later (x ∷ word) (parts value) ≡ is_word_of false false (x ∷ word) value
        → (t : Bool) → is_space b ≡ t
        → is_later (x ∷ word) (cond t ([] ∷ parts value) (onto_first b (parts value)))
        ≡ is_word_of (is_space b) false (x ∷ word) value
    go first later true e = rw e (any_of_parts (x ∷ word) value
        ∙ ap (λ p. p || is_later (x ∷ word) (parts value)) first
        ∙ ap (λ p. begins_up_to is_space false (x ∷ word) value || p) later
        ∙ sym (begins_or_later x word value))
    go first later false e = rw e (later_onto (x ∷ word) b (parts value) ∙ later)

-- a word with white space is no part
not_first : (word value : List ℕ) → list_any is_space word ≡ true → HasOnlySpaces value
    → is_first word (parts value) ≡ false
not_first [] value some only = absurd (cc)
not_first (x ∷ word) [] some only = refl
not_first (x ∷ word) (b ∷ value) some only =
    go (λ h. not_first word value h (All-tail (λ b. is_space b ≡ (b == space)) b value only))
    (is_space x) refl some (b == space) (All-head (λ b. is_space b ≡ (b == space)) b value only)
  where
    go : (list_any is_space word ≡ true → is_first word (parts value) ≡ false) → (s : Bool)
        → is_space x ≡ s → (s || list_any is_space word) ≡ true → (t : Bool) → is_space b ≡ t
        → is_first (x ∷ word) (cond t ([] ∷ parts value) (onto_first b (parts value))) ≡ false
    go rest s d h true e = refl
    go rest true d h false e =
        first_onto x b word (parts value) ∙ ap (λ p. p && is_first word (parts value)) (differs b x e d)
    go rest false d h false e =
        first_onto x b word (parts value) ∙ ap (λ p. (b == x) && p) (rest h) ∙ and-false (b == x)

not_later : (word value : List ℕ) → list_any is_space word ≡ true → HasOnlySpaces value
    → is_later word (parts value) ≡ false
not_later word [] some only = refl
not_later word (b ∷ value) some only =
    let tail = All-tail (λ b. is_space b ≡ (b == space)) b value only in
    let later = not_later word value some tail in
    elim (b == space) as (λ t. is_later word (cond t ([] ∷ parts value) (onto_first b (parts value)))
    ≡ false) [
      | true ↦ any_of_parts word value
          ∙ ap (λ p. p || is_later word (parts value)) (not_first word value some tail) ∙ later
      | false ↦ later_onto word b (parts value) ∙ later
    ]

-- The tests for a word are the same.
pub same_word : (word value : List ℕ) → word ≢ [] → HasOnlySpaces value
    → port_is_word_of word value
    ≡ (is_some_text word && not (list_any is_space word) && is_word_of true false word value)
same_word [] value some only = absurd (some refl)
same_word (x ∷ word) value some only = go (list_any is_space (x ∷ word)) refl
  where
    go : (s : Bool) → list_any is_space (x ∷ word) ≡ s
        → port_is_word_of (x ∷ word) value ≡ (not s && is_word_of true false (x ∷ word) value)
    go true e = any_of_parts (x ∷ word) value
        ∙ ap (λ p. p || is_later (x ∷ word) (parts value)) (not_first (x ∷ word) value e only)
        ∙ not_later (x ∷ word) value e only
    go false e = any_of_parts (x ∷ word) value
        ∙ ap (λ p. p || is_later (x ∷ word) (parts value)) (first_is (x ∷ word) value e only)
        ∙ ap (λ p. begins_up_to is_space false (x ∷ word) value || p) (later_is x word value e only)
        ∙ sym (begins_or_later x word value)
