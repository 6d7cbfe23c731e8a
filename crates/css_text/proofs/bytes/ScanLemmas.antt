-- What is found by looking through the bytes of a text.
-- Serves `scan::{close_len, find_byte}` (where a byte or the end of a comment is found first).
use Rattle.std.proofs.Common.{◌≡◌, ◌≢◌, ℕ, zero, suc, ◌+◌, ◌<◌, ◌≤◌, Bool, true, false, ◌&&◌, ◌==◌, List, [], ◌∷◌, length, drop, Option, Some, None, MatchOption, arith, refl, sym, eqb-true, eq-eqb, add-one, subst, get_or}
use Rattle.css_text.specs.AsciiBytes.{asterisk, slash}
use Rattle.css_text.specs.Bytes.{starts_two, after_byte}
use Rattle.css_text.specs.Comments.{after_close}

-- a text that does not begin with two bytes
starts_two-lacks : (one two : ℕ) (text : List ℕ) → ((rest : List ℕ) → text ≢ one ∷ two ∷ rest)
    → starts_two one two text ≡ false
starts_two-lacks one two [] h = refl
starts_two-lacks one two (a ∷ []) h = by (a == one)
  where
    by : (x : Bool) → (x && false) ≡ false
    by true = refl
    by false = refl
starts_two-lacks one two (a ∷ b ∷ rest) h = by (a == one) (b == two) refl refl
  where
    by : (x y : Bool) → (a == one) ≡ x → (b == two) ≡ y → ((a == one) && (b == two)) ≡ false
    by false y e f = rw e refl
    by true false e f = rw (e, f) refl
    by true true e f =
        let first : a ≡ one = eqb-true a one e in
        let second : b ≡ two = eqb-true b two f in
        absurd (h rest (cc))

-- a text without a `*/`
pub after_close-none : (text : List ℕ) → ((i : ℕ) → i ≤ length text → (rest : List ℕ)
    → drop i text ≢ asterisk ∷ slash ∷ rest) → after_close text ≡ None
after_close-none [] h = refl
after_close-none (b ∷ text) h =
    let here : starts_two asterisk slash (b ∷ text) ≡ false =
    starts_two-lacks asterisk slash (b ∷ text)
    (h 0 (omega arith)) in
    rw here (after_close-none text (λ i l rest. h (suc i) (omega arith) rest))

-- a text whose first `*/` is at i
pub after_close-at : (text rest : List ℕ) (i : ℕ)
    → ((k : ℕ) → k < i → (r : List ℕ) → drop k text ≢ asterisk ∷ slash ∷ r)
    → drop i text ≡ asterisk ∷ slash ∷ rest
    → after_close text ≡ Some rest
after_close-at [] rest zero h e = absurd (cc)
after_close-at [] rest (suc i) h e = absurd (cc)
after_close-at (b ∷ text) rest zero h e = subst (λ (t : List ℕ). after_close t ≡ Some rest) (sym e)
    refl
after_close-at (b ∷ text) rest (suc i) h e =
    let here : starts_two asterisk slash (b ∷ text) ≡ false =
    starts_two-lacks asterisk slash (b ∷ text)
    (h 0 (omega arith)) in
    rw here (after_close-at text rest i (λ k l r. h (suc k) (omega arith) r) e)

-- a text without the byte
after_byte-none : (byte : ℕ) (text : List ℕ) → ((i : ℕ) → i < length text → get_or text i 0 ≢ byte)
    → after_byte byte text ≡ None
after_byte-none byte [] h = refl
after_byte-none byte (b ∷ text) h = by (b == byte) refl
    (after_byte-none byte text (λ i l. h (suc i) (omega arith)))
  where
    by : (x : Bool) → (b == byte) ≡ x → after_byte byte text ≡ None
        → after_byte byte (b ∷ text) ≡ None
    by true e rest = absurd (h 0 (omega arith) (eqb-true b byte e))
    by false e rest = rw e rest

-- a text in which the byte is first at i
after_byte-at : (byte : ℕ) (text : List ℕ) (i : ℕ) → i < length text → get_or text i 0 ≡ byte
    → ((k : ℕ) → k < i → get_or text k 0 ≢ byte) → after_byte byte text ≡ Some (drop (suc i) text)
after_byte-at byte [] i l e h = absurd (omega arith)
after_byte-at byte (b ∷ text) zero l e h = let same : (b == byte)
    ≡ true = eq-eqb b byte e in rw same refl
after_byte-at byte (b ∷ text) (suc i) l e h = by (b == byte) refl
    (after_byte-at byte text i (omega arith) e (λ k m. h (suc k) (omega arith)))
  where
    by : (x : Bool) → (b == byte) ≡ x → after_byte byte text ≡ Some (drop (suc i) text)
        → after_byte byte (b ∷ text) ≡ Some (drop (suc i) text)
    by true f rest = absurd (h 0 (omega arith) (eqb-true b byte f))
    by false f rest = rw f rest

-- what a search for the byte finds
pub after_byte-found : (byte : ℕ) (text : List ℕ) (r : Option ℕ)
    → MatchOption r ((i : ℕ) → i < length text
    → get_or text i 0 ≢ byte) (λ k. (k < length text) × (get_or text k 0 ≡ byte) × ((i : ℕ)
    → i < k → get_or text i 0 ≢ byte))
    → MatchOption r (after_byte byte text ≡ None)
    (λ n. after_byte byte text ≡ Some (drop (n + 1) text))
after_byte-found byte text None h = after_byte-none byte text h
after_byte-found byte text (Some k) h = rw add-one (after_byte-at byte text k h.0 h.1 h.2)
