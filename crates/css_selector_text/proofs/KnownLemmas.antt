-- Names that are looked up by their lengths.
-- Serves `known_names`.
use Rattle.std.proofs.Common.{◌≡◌, ℕ, ◌≤◌, ◌||◌, ◌&&◌, nat_le, Bool, true, false, List, [], ◌∷◌, ◌++◌, length, arith, refl, sym, ap, ◌∙◌}
use Rattle.std.specs.Prelude.{if◌then◌else◌}
use Rattle.std.specs.Char.{to_ascii_lowercase}
use Rattle.std.specs.Str.{str_eq_ignore_ascii_case}
use Rattle.std.proofs.lemmas.Bool.Decides.{nat_tests}
use Rattle.std.proofs.lemmas.List.{length-map}
use Rattle.std.proofs.lemmas.List.Folds.{list_any-append}
use Rattle.std.proofs.lemmas.Slice.Eq.{bytes_eq-Decides}
use Rattle.css_selector_text.specs.reading.KnownNames.{is_one_of}

-- the names whose lengths pass a test
abbrev pub of_lengths : (ℕ → Bool) → List (List ℕ) → List (List ℕ)
of_lengths test [] = []
of_lengths test (name ∷ names) =
    if test (length name) then name ∷ of_lengths test names else of_lengths test names

-- the same texts but for case are of one length
same_length : (n name : List ℕ) → str_eq_ignore_ascii_case n name ≡ true → length n ≡ length name
same_length n name e =
    sym (length-map n to_ascii_lowercase)
    ∙ ap length ((bytes_eq-Decides _ _).0 e)
    ∙ length-map name to_ascii_lowercase

-- names of other lengths are others
by_length : (test : ℕ → Bool) (names : List (List ℕ)) (n : List ℕ) → test (length n) ≡ true
    → is_one_of (of_lengths test names) n ≡ is_one_of names n
by_length test [] n is = refl
by_length test (name ∷ names) n is = by (test (length name)) refl (by_length test names n is)
  where
    other : test (length name) ≡ false → (t : Bool) → str_eq_ignore_ascii_case n name ≡ t → t ≡ false
    other e false q = refl
    other e true q =
        absurd (let wrong = sym e ∙ ap test (sym (same_length n name q)) ∙ is in cc)

    by : (t : Bool) → test (length name) ≡ t → is_one_of (of_lengths test names) n ≡ is_one_of names n
        → is_one_of (if t then name ∷ of_lengths test names else of_lengths test names) n
        ≡ (str_eq_ignore_ascii_case n name || is_one_of names n)
    by true e same = ap (λ (t : Bool). str_eq_ignore_ascii_case n name || t) same
    by false e same =
        same ∙ sym (ap (λ (t : Bool). t || is_one_of names n)
        (other e (str_eq_ignore_ascii_case n name) refl))

pub between : (from to : ℕ) (names : List (List ℕ)) (n : List ℕ) → from ≤ length n → length n ≤ to
    → is_one_of (of_lengths (λ k. nat_le from k && nat_le k to) names) n ≡ is_one_of names n
between from to names n low high =
    let l : nat_le from (length n) ≡ true = grind (arith, nat_tests, low) in
    let h : nat_le (length n) to ≡ true = grind (arith, nat_tests, high) in
    by_length (λ k. nat_le from k && nat_le k to) names n (rw (l, h) refl)

pub at_least : (from : ℕ) (names : List (List ℕ)) (n : List ℕ) → from ≤ length n
    → is_one_of (of_lengths (nat_le from) names) n ≡ is_one_of names n
at_least from names n low = by_length (nat_le from) names n (grind (arith, nat_tests, low))

-- a name that is declared is one of those that are known and those that are declared
pub or_declared : (known own : List (List ℕ)) (n : List ℕ)
    → is_one_of (known ++ own) n ≡ (is_one_of known n || is_one_of own n)
or_declared known own n = list_any-append (str_eq_ignore_ascii_case n) known own

-- a known name is one of both
pub is_known : (known own : List (List ℕ)) (n : List ℕ) (b : Bool) → b ≡ is_one_of known n
    → b ≡ true → b ≡ is_one_of (known ++ own) n
is_known known own n b e is =
    is ∙ sym (or_declared known own n ∙ ap (λ (t : Bool). t || is_one_of own n) (sym e ∙ is))

-- any other is one of both if it is declared
pub is_own : (known own : List (List ℕ)) (n : List ℕ) (b : Bool) → b ≡ is_one_of known n
    → b ≡ false → (o : Bool) → o ≡ is_one_of own n → o ≡ is_one_of (known ++ own) n
is_own known own n b e is o f =
    f ∙ sym (or_declared known own n ∙ ap (λ (t : Bool). t || is_one_of own n) (sym e ∙ is))
