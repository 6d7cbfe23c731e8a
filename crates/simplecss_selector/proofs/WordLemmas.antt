-- The words of a text, which are what its spaces separate, and the test for one of them.
-- Serves `AttributeOperator::matches` (the test for a word).
use Rattle.std.proofs.Common.{◌≡◌, ◌≢◌, ℕ, zero, suc, ◌+◌, ◌<◌, ◌≤◌, ◌==◌, ◌↔◌, List, [], ◌∷◌, ◌++◌, take, drop, add-one, eqb-true, eq-eqb, ◌⊎◌, inl, inr, length, get_or, refl, sym, ap, ◌∙◌, subst, arith, append_assoc, append-nil, Bool, true, false}
use Rattle.std.proofs.Math.Seq.{drop-cons}
use Rattle.std.specs.Prelude.{bytes_eq, ◌||◌}
use Rattle.std.specs.List.{All, list_any}
use Rattle.std.proofs.lemmas.Bool.{false≢true}
use Rattle.std.proofs.lemmas.List.{take-append-drop, get_or-take, length-take, length-append}
use Rattle.std.proofs.lemmas.List.Elements.{All-head, All-tail, All-cons}
use Rattle.std.proofs.lemmas.List.Splits.{slice_split_none, slice_split_at}
use Rattle.std.proofs.lemmas.Slice.Eq.{bytes_eq-Decides}
use Rattle.css_text.specs.AsciiBytes.{space as space_byte}
use Rattle.simplecss_selector.specs.Operators.{IsUpToSpace, IsFromSpace, OccursIn, is_word_of}

-- no byte is a space
abbrev pub Spaceless : List ℕ → Type 0
Spaceless [] = Unit {0}
Spaceless (b ∷ bs) = (b ≢ space_byte) × Spaceless bs

pub spaceless_from : (bs : List ℕ) → ((i : ℕ) → i < length bs → get_or bs i 0 ≢ space_byte)
    → Spaceless bs
spaceless_from [] h = tt
spaceless_from (b ∷ bs) h = (h 0 (omega arith), spaceless_from bs (λ i l. h (suc i) (omega arith)))

pub spaceless_all : (bs : List ℕ) → All (λ b. b ≢ space_byte) bs → Spaceless bs
spaceless_all [] h = tt
spaceless_all (b ∷ bs) h = (
  All-head (λ b. b ≢ space_byte) b bs h,
  spaceless_all bs (All-tail (λ b. b ≢ space_byte) b bs h),
)

pub all_spaceless : (bs : List ℕ) → Spaceless bs → All (λ b. b ≢ space_byte) bs
all_spaceless [] h = λ k d l. absurd (omega arith)
all_spaceless (b ∷ bs) h = All-cons (λ b. b ≢ space_byte) b bs h.0 (all_spaceless bs h.1)

has_space : (z t f : List ℕ) → Spaceless f → f ≡ z ++ space_byte ∷ t → ⊥
has_space [] t [] s e = cc
has_space [] t (b ∷ f) s e = s.0 (heads e)
  where
    heads : {a b : ℕ} {xs ys : List ℕ} → a ∷ xs ≡ b ∷ ys → a ≡ b
    heads e = cc
has_space (a ∷ z) t [] s e = cc
has_space (a ∷ z) t (b ∷ f) s e = has_space z t f s.1 (tails e)
  where
    tails : {a b : ℕ} {xs ys : List ℕ} → a ∷ xs ≡ b ∷ ys → xs ≡ ys
    tails e = cc

head_of : {a b : ℕ} {xs ys : List ℕ} → a ∷ xs ≡ b ∷ ys → a ≡ b
head_of e = cc

tail_of : {a b : ℕ} {xs ys : List ℕ} → a ∷ xs ≡ b ∷ ys → xs ≡ ys
tail_of e = cc

cons_same : {a b : ℕ} {xs ys : List ℕ} → a ≡ b → xs ≡ ys → a ∷ xs ≡ b ∷ ys
cons_same e f = cc

-- two ways to split a text at a space, the first of them at the first space
cut_first : (f z t r : List ℕ) → Spaceless f → z ++ space_byte ∷ t ≡ f ++ space_byte ∷ r
    → ((z ≡ f) × (t ≡ r)) ⊎ ((m : List ℕ) × (z ≡ f ++ space_byte ∷ m) × (r ≡ m ++ space_byte ∷ t))
cut_first [] [] t r s e = inl (refl, tail_of e)
cut_first [] (a ∷ z) t r s e = inr (z, cons_same (head_of e) refl, sym (tail_of e))
cut_first (b ∷ f) [] t r s e = absurd (s.0 (sym (head_of e)))
cut_first (b ∷ f) (a ∷ z) t r s e =
    elim (cut_first f z t r s.1 (tail_of e)) [
      | inl h ↦ inl (cons_same (head_of e) h.0, h.1)
      | inr h ↦ inr (h.0, cons_same (head_of e) h.1, h.2)
    ]

-- a text is separated at a space
pub at_space : (r : List ℕ) (n : ℕ) → n < length r → (get_or r n 0 == space_byte) ≡ true
    → r ≡ take n r ++ space_byte ∷ drop (n + 1) r
at_space r n h e =
    sym (take-append-drop n r) ∙ ap (λ t. take n r ++ t)
    (rw add-one (drop-cons r n 0 h ∙ ap (λ b. b ∷ drop (suc n) r) (eqb-true _ _ e)))

not_space : (b : ℕ) → (b == space_byte) ≡ false → b ≢ space_byte
not_space b f e = false≢true (sym f ∙ eq-eqb b space_byte e)

pub before_space : (r : List ℕ) (n : ℕ) → ((k : ℕ) → k < n → (get_or r k 0 == space_byte) ≡ false)
    → (i : ℕ) → i < length (take n r) → get_or (take n r) i 0 ≢ space_byte
before_space r n none i h =
    let before : i < n = omega (arith, h, length-take n r) in
    rw (get_or-take n r i 0 before) (not_space (get_or r i 0) (none i before))

pub no_space : (r : List ℕ) → ((k : ℕ) → k < length r → (get_or r k 0 == space_byte) ≡ false)
    → (i : ℕ) → i < length r → get_or r i 0 ≢ space_byte
no_space r none i h = not_space (get_or r i 0) (none i h)

abbrev pub IsWord : List ℕ → List ℕ → Type 0
IsWord w v = Spaceless w × OccursIn w v

only_word : (w v x y : List ℕ) → Spaceless v → v ≡ x ++ (w ++ y) → IsUpToSpace x → IsFromSpace y
    → v ≡ w
only_word w v x y s e (inl a) (inl b) = e ∙ (rw (a, b) (append-nil w))
only_word w v x y s e (inl a) (inr b) = absurd (has_space w b.0 v s (e ∙ rw (a, b.1) refl))
only_word w v x y s e (inr a) f =
    absurd (has_space a.0 (w ++ y) v s (e ∙ rw (a.1, append_assoc) refl))

pub last_word : (w v : List ℕ) → Spaceless v → IsWord w v ↔ (v ≡ w)
last_word w v s = (
  λ h. only_word w v h.1.0 h.1.1 s h.1.2 h.1.3 h.1.4,
  λ e. (subst Spaceless e s, ([], [], e ∙ sym (append-nil w), inl refl, inl refl)),
)

from_later : (w f r x y : List ℕ) → r ≡ x ++ (w ++ y) → IsUpToSpace x → IsFromSpace y
    → OccursIn w (f ++ space_byte ∷ r)
from_later w f r x y e (inl a) b =
    (f ++ space_byte ∷ [], y, rw (e, a, append_assoc) refl, inr (f, refl), b)
from_later w f r x y e (inr a) b = (
  f ++ space_byte ∷ x,
  y,
  rw (e, append_assoc) refl,
  inr (f ++ space_byte ∷ a.0, rw (a.1, append_assoc) refl),
  b,
)

to_later : (w f r x y : List ℕ) → Spaceless w → Spaceless f → f ++ space_byte ∷ r ≡ x ++ (w ++ y)
    → IsUpToSpace x → IsFromSpace y → (f ≡ w) ⊎ OccursIn w r
to_later w f r x y s sf e (inl a) (inl b) =
    absurd (has_space f r w s (sym (e ∙ rw (a, b) (append-nil w))))
to_later w f r x y s sf e (inl a) (inr b) =
    elim (cut_first f w b.0 r sf (sym (e ∙ rw (a, b.1) refl)))
    [ inl h ↦ inl (sym h.0) | inr h ↦ absurd (has_space f h.0 w s h.1) ]
to_later w f r x y s sf e (inr a) b =
    elim (cut_first f a.0 (w ++ y) r sf (sym (e ∙ rw (a.1, append_assoc) refl))) [
      | inl h ↦ inr ([], y, sym h.1, inl refl, b)
      | inr h ↦ inr (h.0 ++ space_byte ∷ [], y, h.2 ∙ (rw append_assoc refl), inr (h.0, refl), b)
    ]

pub next_word : (w f r v : List ℕ) → Spaceless f → v ≡ f ++ space_byte ∷ r
    → IsWord w v ↔ ((f ≡ w) ⊎ IsWord w r)
next_word w f r v sf e =
    rw e (there, back)
  where
    there : IsWord w (f ++ space_byte ∷ r) → (f ≡ w) ⊎ IsWord w r
    there h =
        elim (to_later w f r h.1.0 h.1.1 h.0 sf h.1.2 h.1.3 h.1.4)
        [ inl a ↦ inl a | inr b ↦ inr (h.0, b) ]

    back : (f ≡ w) ⊎ IsWord w r → IsWord w (f ++ space_byte ∷ r)
    back (inl a) = (
      subst Spaceless a sf,
      ([], space_byte ∷ r, ap (λ (q : List ℕ). q ++ space_byte ∷ r) a, inl refl, inr (r, refl)),
    )
    back (inr h) = (h.0, from_later w f r h.1.0 h.1.1 h.1.2 h.1.3 h.1.4)

pub words_are : (w v : List ℕ) → (All (λ b. b ≢ space_byte) w × OccursIn w v) ↔ IsWord w v
words_are w v = (λ h. (spaceless_all w h.0, h.1), λ h. (all_spaceless w h.0, h.1))

is_space-Spaceless : (bs : List ℕ) → Spaceless bs → All (λ b. (b == space_byte) ≡ false) bs
is_space-Spaceless [] s = λ k d l. absurd (omega arith)
is_space-Spaceless (b ∷ bs) s = All-cons (λ x. (x == space_byte) ≡ false) b bs
    (other (b == space_byte) refl) (is_space-Spaceless bs s.1)
  where
    other : (t : Bool) → (b == space_byte) ≡ t → (b == space_byte) ≡ false
    other true e = absurd (s.0 (eqb-true b space_byte e))
    other false e = e

pub or-false : (t : Bool) → (t || false) ≡ t
or-false true = refl
or-false false = refl

-- the others follow the first word
pub is_word_of-first : (w f r : List ℕ) → Spaceless f
    → is_word_of w (f ++ space_byte ∷ r) ≡ (bytes_eq f w || is_word_of w r)
is_word_of-first w f r s =
    ap (list_any (λ entry. bytes_eq entry w))
    (slice_split_at (λ b. b == space_byte) f space_byte r (is_space-Spaceless f s) refl)

-- a text with no space is its one word
pub is_word_of-last : (w v : List ℕ) → Spaceless v → is_word_of w v ≡ bytes_eq v w
is_word_of-last w v s =
    ap (list_any (λ entry. bytes_eq entry w))
    (slice_split_none (λ b. b == space_byte) v (is_space-Spaceless v s)) ∙ or-false (bytes_eq v w)

-- the same of a text with its first space at an offset
pub is_word_of-at : (w r : List ℕ) (n : ℕ) → n < length r → (get_or r n 0 == space_byte) ≡ true
    → ((k : ℕ) → k < n → (get_or r k 0 == space_byte) ≡ false)
    → is_word_of w r ≡ (bytes_eq (take n r) w || is_word_of w (drop (n + 1) r))
is_word_of-at w r n within space none =
    ap (is_word_of w) (at_space r n within space) ∙ is_word_of-first w (take n r) (drop (n + 1) r)
    (spaceless_from (take n r) (before_space r n none))

-- and of one that has none
pub is_word_of-none : (w r : List ℕ)
    → ((k : ℕ) → k < length r → (get_or r k 0 == space_byte) ≡ false)
    → is_word_of w r ≡ bytes_eq r w
is_word_of-none w r none = is_word_of-last w r (spaceless_from r (no_space r none))

-- a text is one word, or a word and what follows the space after it
data Cut (text : List ℕ) : Type 0 where
  whole : Spaceless text → Cut text
  parted : (word rest : List ℕ) → Spaceless word → text ≡ word ++ space_byte ∷ rest → Cut text

cut_on : (b : ℕ) (text : List ℕ) (space : Bool) → (b == space_byte) ≡ space → Cut text
    → Cut (b ∷ text)
cut_on b text true e cut = parted [] text tt (ap (λ c. c ∷ text) (eqb-true b space_byte e))
cut_on b text false e (whole none) = whole (not_space b e, none)
cut_on b text false e (parted word rest none is) =
    parted (b ∷ word) rest (not_space b e, none) (ap (λ t. b ∷ t) is)

cut_of : (text : List ℕ) → Cut text
cut_of [] = whole tt
cut_of (b ∷ text) = cut_on b text (b == space_byte) refl (cut_of text)

pub or-true : (first rest : Bool) → ((first || rest) ≡ true) ↔ ((first ≡ true) ⊎ (rest ≡ true))
or-true true rest = (λ e. inl refl, λ e. refl)
or-true false rest = (λ e. inr e, from)
  where
    from : (false ≡ true) ⊎ (rest ≡ true) → rest ≡ true
    from (inl e) = absurd (false≢true e)
    from (inr e) = e

-- what the test for a word means, in a text of at most n bytes
word_in : (n : ℕ) (word text : List ℕ) → length text ≤ n → Cut text
    → (is_word_of word text ≡ true) ↔ IsWord word text
word_in n word text few (whole none) =
    let only = last_word word text none in
    let same = bytes_eq-Decides text word in
    let test = is_word_of-last word text none in
    (λ e. only.1 (same.0 (sym test ∙ e)), λ w. test ∙ same.1 (only.0 w))
word_in zero word text few (parted first rest none is) =
    absurd (omega (arith, few, ap length is, length-append first (space_byte ∷ rest)))
word_in (suc n) word text few (parted first rest none is) =
    let next = next_word word first rest text none is in
    let same = bytes_eq-Decides first word in
    let later = word_in n word rest
    (omega (arith, few, ap length is, length-append first (space_byte ∷ rest))) (cut_of rest) in
    let test = ap (is_word_of word) is ∙ is_word_of-first word first rest none in
    let either = or-true (bytes_eq first word) (is_word_of word rest) in (
      λ e. next.1
          (elim (either.0 (sym test ∙ e)) [ inl t ↦ inl (same.0 t) | inr f ↦ inr (later.0 f) ]),
      λ w. test ∙ either.1 (elim (next.0 w) [ inl t ↦ inl (same.1 t) | inr f ↦ inr (later.1 f) ]),
    )

pub is_word_of-OccursIn : (word value : List ℕ)
    → (is_word_of word value ≡ true) ↔ (All (λ b. b ≢ space_byte) word × OccursIn word value)
is_word_of-OccursIn word value =
    let is = word_in (length value) word value (omega arith) (cut_of value) in
    let words = words_are word value in
    (λ e. words.1 (is.0 e), λ h. is.1 (words.0 h))
