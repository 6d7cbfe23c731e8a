-- The words of a value.
-- Serves `words`.
use Rattle.std.proofs.Common.{◌≡◌, ℕ, suc, ◌<◌, ◌⊎◌, ◌↔◌, inl, inr, ◌==◌, ◌||◌, ◌&&◌, not, Bool, true, false, IsTrue, List, [], ◌∷◌, ◌++◌, length, take, drop, one-add, eqb-true, arith, refl, sym, ap, ◌∙◌, subst}
use Rattle.std.specs.Prelude.{bytes_eq}
use Rattle.std.specs.List.{Contains, list_any, prefix_len}
use Rattle.std.proofs.lemmas.Bool.{false≢true}
use Rattle.std.proofs.lemmas.List.Elements.{Contains-append_left, Contains-append_right, Contains-append_cases, Contains-push, Contains-push_cases}
use Rattle.std.proofs.lemmas.Slice.Eq.{bytes_eq-Decides}
use Rattle.css_text.specs.Bytes.{past}
use Rattle.css_text.specs.Characters.{is_space}
use Rattle.css_text.proofs.bytes.RunLemmas.{past-stops}
use Rattle.css_selector_text.specs.AttributeTests.{begins, begins_up_to, ends_by, is_word_of, is_some_text, is_satisfied}
use Rattle.css_selector_text.specs.Components.Comparison.{has_word}
use Rattle.css_index.specs.internal.Filed.{AreWords}

abbrev pub is_unspaced : ℕ → Bool
is_unspaced b = not (is_space b)

-- the number of bytes before white space
abbrev pub word_len : List ℕ → ℕ
word_len text = prefix_len is_unspaced text

abbrev may_be_word : List ℕ → Bool
may_be_word x = is_some_text x && not (list_any is_space x)

first_unspaced : (a : ℕ) (x : List ℕ) → list_any is_space (a ∷ x) ≡ false → is_space a ≡ false
first_unspaced a x h = by (is_space a) refl h
  where
    by : (t : Bool) → is_space a ≡ t → (t || list_any is_space x) ≡ false → is_space a ≡ false
    by true is k = absurd (cc)
    by false is k = is

rest_unspaced : (a : ℕ) (x : List ℕ) → list_any is_space (a ∷ x) ≡ false
    → list_any is_space x ≡ false
rest_unspaced a x h = by (is_space a) h
  where
    by : (t : Bool) → (t || list_any is_space x) ≡ false → list_any is_space x ≡ false
    by true k = absurd (cc)
    by false k = k

is_unspaced_word : (x : List ℕ) → IsTrue (may_be_word x) → list_any is_space x ≡ false
is_unspaced_word [] h = absurd (cc)
is_unspaced_word (a ∷ x) h = by (list_any is_space (a ∷ x)) refl h
  where
    by : (t : Bool) → list_any is_space (a ∷ x) ≡ t → IsTrue (true && not t)
        → list_any is_space (a ∷ x) ≡ false
    by true is k = absurd (cc)
    by false is k = is

-- a word does not begin at white space
not_begun : (x v : List ℕ) (b : ℕ) → IsTrue (may_be_word x) → is_space b ≡ true
    → begins false x (b ∷ v) ≡ false
not_begun [] v b h s = absurd (cc)
not_begun (a ∷ x) v b h s = by (a == b) refl
  where
    by : (e : Bool) → (a == b) ≡ e → (e && begins false x v) ≡ false
    by false is = refl
    by true is =
        let u = first_unspaced a x (is_unspaced_word (a ∷ x) h) in
        absurd (false≢true (sym u ∙ ap is_space (eqb-true a b is) ∙ s))

spaced_start : (may : Bool) (x v : List ℕ) (b : ℕ) → IsTrue (may_be_word x) → is_space b ≡ true
    → is_word_of may false x (b ∷ v) ≡ is_word_of true false x v
spaced_start true x v b h s = rw (not_begun x v b h s, s) refl
spaced_start false x v b h s = rw s refl

past_yes : (v : List ℕ) (b : ℕ) → is_space b ≡ true → past is_space (b ∷ v) ≡ past is_space v
past_yes v b s = rw (s, one-add (prefix_len is_space v)) refl

past_no : (v : List ℕ) (b : ℕ) → is_space b ≡ false → past is_space (b ∷ v) ≡ b ∷ v
past_no v b s = rw s refl

-- white space at the start changes no words
word_past : (x v : List ℕ) → IsTrue (may_be_word x)
    → is_word_of true false x v ≡ is_word_of true false x (past is_space v)
word_past x [] h = refl
word_past x (b ∷ v) h = by (is_space b) refl (word_past x v h)
  where
    by : (t : Bool) → is_space b ≡ t
        → is_word_of true false x v ≡ is_word_of true false x (past is_space v)
        → is_word_of true false x (b ∷ v) ≡ is_word_of true false x (past is_space (b ∷ v))
    by true s ih = spaced_start true x v b h s ∙ ih
        ∙ ap (is_word_of true false x) (sym (past_yes v b s))
    by false s ih = ap (is_word_of true false x) (sym (past_no v b s))

len_yes : (v : List ℕ) (b : ℕ) → is_space b ≡ false → word_len (b ∷ v) ≡ suc (word_len v)
len_yes v b s = rw (s, one-add (word_len v)) refl

len_no : (v : List ℕ) (b : ℕ) → is_space b ≡ true → word_len (b ∷ v) ≡ 0
len_no v b s = rw s refl

-- no word begins within a word
word_body : (x v : List ℕ) → IsTrue (may_be_word x)
    → is_word_of false false x v ≡ is_word_of true false x (drop (word_len v) v)
word_body x [] h = refl
word_body x (b ∷ v) h = by (is_space b) refl (word_body x v h)
  where
    by : (t : Bool) → is_space b ≡ t
        → is_word_of false false x v ≡ is_word_of true false x (drop (word_len v) v)
        → is_word_of false false x (b ∷ v)
        ≡ is_word_of true false x (drop (word_len (b ∷ v)) (b ∷ v))
    by true s ih = spaced_start false x v b h s ∙ sym (spaced_start true x v b h s)
        ∙ ap (λ n. is_word_of true false x (drop n (b ∷ v))) (sym (len_no v b s))
    by false s ih = rw s ih
        ∙ ap (λ n. is_word_of true false x (drop n (b ∷ v))) (sym (len_yes v b s))

-- a text without white space begins here up to white space exactly if it is the run of bytes here
begun_is : (x v : List ℕ) → list_any is_space x ≡ false
    → begins_up_to is_space false x v ≡ bytes_eq x (take (word_len v) v)
begun_is [] [] u = refl
begun_is [] (b ∷ v) u = by (is_space b) refl
  where
    by : (t : Bool) → is_space b ≡ t → is_space b ≡ bytes_eq [] (take (word_len (b ∷ v)) (b ∷ v))
    by true s = s ∙ ap (λ n. bytes_eq [] (take n (b ∷ v))) (sym (len_no v b s))
    by false s = s ∙ ap (λ n. bytes_eq [] (take n (b ∷ v))) (sym (len_yes v b s))
begun_is (a ∷ x) [] u = refl
begun_is (a ∷ x) (b ∷ v) u =
    by (is_space b) (a == b) refl refl (begun_is x v (rest_unspaced a x u))
  where
    left : {e : Bool} → (a == b) ≡ e → begins_up_to is_space false (a ∷ x) (b ∷ v)
        ≡ ((e && begins false x v) && ends_by is_space (drop (length x) v))
    left is = ap (λ t. (t && begins false x v) && ends_by is_space (drop (length x) v)) is

    right : {e : Bool} → (a == b) ≡ e → bytes_eq (a ∷ x) (b ∷ take (word_len v) v)
        ≡ (e && bytes_eq x (take (word_len v) v))
    right is = ap (λ t. t && bytes_eq x (take (word_len v) v)) is

    by : (t e : Bool) → is_space b ≡ t → (a == b) ≡ e
        → begins_up_to is_space false x v ≡ bytes_eq x (take (word_len v) v)
        → begins_up_to is_space false (a ∷ x) (b ∷ v)
        ≡ bytes_eq (a ∷ x) (take (word_len (b ∷ v)) (b ∷ v))
    by true true s is ih =
        absurd (false≢true (sym (first_unspaced a x u) ∙ ap is_space (eqb-true a b is) ∙ s))
    by true false s is ih =
        left is ∙ ap (λ n. bytes_eq (a ∷ x) (take n (b ∷ v))) (sym (len_no v b s))
    by false true s is ih =
        left is ∙ ih ∙ sym (right is)
        ∙ ap (λ n. bytes_eq (a ∷ x) (take n (b ∷ v))) (sym (len_yes v b s))
    by false false s is ih =
        left is ∙ sym (right is)
        ∙ ap (λ n. bytes_eq (a ∷ x) (take n (b ∷ v))) (sym (len_yes v b s))

-- the words of a text that begins with one are that one and those of the rest
split_is : (x v : List ℕ) → IsTrue (may_be_word x) → 0 < word_len v
    → is_word_of true false x v
    ≡ (bytes_eq x (take (word_len v) v) || is_word_of true false x (drop (word_len v) v))
split_is x [] h some = absurd (omega (arith, some))
split_is x (b ∷ v) h some = by (is_space b) refl
  where
    by : (t : Bool) → is_space b ≡ t → is_word_of true false x (b ∷ v)
        ≡ (bytes_eq x (take (word_len (b ∷ v)) (b ∷ v))
        || is_word_of true false x (drop (word_len (b ∷ v)) (b ∷ v)))
    by true s = let none = len_no v b s in absurd (omega (arith, some, none))
    by false s =
        ap (λ t. t || is_word_of (is_space b) false x v)
        (begun_is x (b ∷ v) (is_unspaced_word x h))
        ∙ ap (λ t. bytes_eq x (take (word_len (b ∷ v)) (b ∷ v)) || t)
        (rw s (word_body x v h)
        ∙ ap (λ n. is_word_of true false x (drop n (b ∷ v))) (sym (len_yes v b s)))

run_unspaced : (v : List ℕ) → list_any is_space (take (word_len v) v) ≡ false
run_unspaced [] = refl
run_unspaced (b ∷ v) = by (is_space b) refl (run_unspaced v)
  where
    by : (t : Bool) → is_space b ≡ t → list_any is_space (take (word_len v) v) ≡ false
        → list_any is_space (take (word_len (b ∷ v)) (b ∷ v)) ≡ false
    by true s ih = ap (λ n. list_any is_space (take n (b ∷ v))) (len_no v b s)
    by false s ih = ap (λ n. list_any is_space (take n (b ∷ v))) (len_yes v b s) ∙ rw s ih

run_may_be : (v : List ℕ) → 0 < word_len v → IsTrue (may_be_word (take (word_len v) v))
run_may_be [] some = absurd (omega (arith, some))
run_may_be (b ∷ v) some = by (is_space b) refl
  where
    by : (t : Bool) → is_space b ≡ t
        → IsTrue (may_be_word (take (word_len (b ∷ v)) (b ∷ v)))
    by true s = let none = len_no v b s in absurd (omega (arith, some, none))
    by false s =
        ap (λ t. is_some_text (take (word_len (b ∷ v)) (b ∷ v)) && not t) (run_unspaced (b ∷ v))
        ∙ ap (λ n. is_some_text (take n (b ∷ v)) && true) (len_yes v b s)

-- a value without words
pub no_words : (value text : List ℕ) (n : ℕ) → text ≡ past is_space value → n ≡ word_len text
    → n ≡ 0 → (x : List ℕ) → IsTrue (is_satisfied has_word false x value) → ⊥
no_words value [] n is len none x h = by (may_be_word x) refl h
  where
    by : (t : Bool) → may_be_word x ≡ t → IsTrue (t && is_word_of true false x value) → ⊥
    by false m k = absurd (cc)
    by true m k =
        false≢true (ap (is_word_of true false x) is ∙ sym (word_past x value m) ∙ k)
no_words value (b ∷ v) n is len none x h =
    let some = len_yes v b (past-stops is_space value b v (sym is)) in
    absurd (omega (arith, len, none, some))

-- the first word of a value, and those after it
pub first_word : (value text word rest : List ℕ) (n : ℕ) → text ≡ past is_space value
    → n ≡ word_len text → (n ≡ 0 → ⊥) → word ≡ take n text → rest ≡ drop n text → (x : List ℕ)
    → IsTrue (is_satisfied has_word false x value)
    ↔ ((x ≡ word) ⊎ IsTrue (is_satisfied has_word false x rest))
first_word value text word rest n is len some word_is rest_is x = (there, back)
  where
    more : 0 < word_len text
    more = omega (arith, len, some)

    word_run : word ≡ take (word_len text) text
    word_run = word_is ∙ ap (λ k. take k text) len

    words : IsTrue (may_be_word x) → is_word_of true false x value
        ≡ (bytes_eq x word || is_word_of true false x rest)
    words m = word_past x value m ∙ ap (is_word_of true false x) (sym is) ∙ split_is x text m more
        ∙ ap (λ w. bytes_eq x w || is_word_of true false x (drop (word_len text) text))
        (sym word_run)
        ∙ ap (λ r. bytes_eq x word || is_word_of true false x r)
        (ap (λ k. drop k text) (sym len) ∙ sym rest_is)

    there : IsTrue (is_satisfied has_word false x value)
        → (x ≡ word) ⊎ IsTrue (is_satisfied has_word false x rest)
    there h = by (may_be_word x) (bytes_eq x word) refl refl h
      where
        by : (t e : Bool) → may_be_word x ≡ t → bytes_eq x word ≡ e
            → IsTrue (t && is_word_of true false x value)
            → (x ≡ word) ⊎ IsTrue (is_satisfied has_word false x rest)
        by false e m is k = absurd (cc)
        by true true m is k = inl ((bytes_eq-Decides x word).0 is)
        by true false m is k =
            inr (rw m (sym (ap (λ t. t || is_word_of true false x rest) is) ∙ sym (words m) ∙ k))

    back : (x ≡ word) ⊎ IsTrue (is_satisfied has_word false x rest)
        → IsTrue (is_satisfied has_word false x value)
    back (inl e) =
        let m : IsTrue (may_be_word x) =
        subst (λ w. IsTrue (may_be_word w)) (sym (e ∙ word_run)) (run_may_be text more) in
        rw m (words m
        ∙ ap (λ t. t || is_word_of true false x rest) ((bytes_eq-Decides x word).1 e))
    back (inr h) = by (may_be_word x) (bytes_eq x word) refl refl h
      where
        by : (t e : Bool) → may_be_word x ≡ t → bytes_eq x word ≡ e
            → IsTrue (t && is_word_of true false x rest)
            → IsTrue (is_satisfied has_word false x value)
        by false e m is k = absurd (cc)
        by true true m is k =
            rw m (words m ∙ ap (λ t. t || is_word_of true false x rest) is)
        by true false m is k =
            rw m (words m ∙ ap (λ t. t || is_word_of true false x rest) is ∙ k)

-- white space is ASCII
pub space_low : (b : ℕ) → is_unspaced b ≡ false → b < 128
space_low b h = grind arith

-- no word was split off yet
pub no_word_yet : (value text : List ℕ) → IsTrue (is_satisfied has_word false text value)
    ↔ (Contains [] text ⊎ IsTrue (is_satisfied has_word false text value))
no_word_yet value text = (
  λ h. inr h,
  λ h. elim h [ inl c ↦ absurd (let l = c.1 in omega (arith, l)) | inr k ↦ k ],
)

-- one more word was split off
pub word_more : (value : List ℕ) (words : List (List ℕ)) (word rest after : List ℕ)
    → ((text : List ℕ) → IsTrue (is_satisfied has_word false text value)
    ↔ (Contains words text ⊎ IsTrue (is_satisfied has_word false text rest)))
    → ((text : List ℕ) → IsTrue (is_satisfied has_word false text rest)
    ↔ ((text ≡ word) ⊎ IsTrue (is_satisfied has_word false text after)))
    → (text : List ℕ) → IsTrue (is_satisfied has_word false text value)
    ↔ (Contains (words ++ word ∷ []) text ⊎ IsTrue (is_satisfied has_word false text after))
word_more value words word rest after known split text = (there, back)
  where
    there : IsTrue (is_satisfied has_word false text value)
        → Contains (words ++ word ∷ []) text ⊎ IsTrue (is_satisfied has_word false text after)
    there h = elim ((known text).0 h) [
      | inl c ↦ inl (Contains-append_left words (word ∷ []) text c)
      | inr k ↦ elim ((split text).0 k) [
        | inl e ↦ inl (subst (Contains (words ++ word ∷ [])) (sym e) (Contains-push words word))
        | inr l ↦ inr l
      ]
    ]

    back : Contains (words ++ word ∷ []) text ⊎ IsTrue (is_satisfied has_word false text after)
        → IsTrue (is_satisfied has_word false text value)
    back h = elim h [
      | inl c ↦ elim (Contains-push_cases words word text c) [
        | inl k ↦ (known text).1 (inl k)
        | inr e ↦ (known text).1 (inr ((split text).1 (inl (sym e))))
      ]
      | inr l ↦ (known text).1 (inr ((split text).1 (inr l)))
    ]

-- the first words and those of the rest
pub words_both : (value rest : List ℕ) (first words : List (List ℕ))
    → ((text : List ℕ) → IsTrue (is_satisfied has_word false text value)
    ↔ (Contains first text ⊎ IsTrue (is_satisfied has_word false text rest)))
    → AreWords rest words → AreWords value (first ++ words)
words_both value rest first words split are text = (
  λ h. elim ((split text).0 h) [
    | inl c ↦ Contains-append_left first words text c
    | inr k ↦ Contains-append_right first words text ((are text).0 k)
  ],
  λ c. elim (Contains-append_cases first words text c) [
    | inl f ↦ (split text).1 (inl f)
    | inr w ↦ (split text).1 (inr ((are text).1 w))
  ],
)

-- all words were split off
pub word_all : (value : List ℕ) (words : List (List ℕ)) (rest : List ℕ)
    → ((text : List ℕ) → IsTrue (is_satisfied has_word false text value)
    ↔ (Contains words text ⊎ IsTrue (is_satisfied has_word false text rest)))
    → ((text : List ℕ) → IsTrue (is_satisfied has_word false text rest) → ⊥)
    → AreWords value words
word_all value words rest known none text = (
  λ h. elim ((known text).0 h) [ inl c ↦ c | inr k ↦ absurd (none text k) ],
  λ c. (known text).1 (inl c),
)
