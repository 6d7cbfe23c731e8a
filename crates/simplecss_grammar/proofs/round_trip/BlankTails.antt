-- A blank is read alike in texts that differ only in a tail that it does not reach.
-- Serves `prints_back` of `StyleSheet::{parse, parse_more, read}` (a sheet printed and read
-- again).
use Rattle.std.proofs.Common.{◌≡◌, ℕ, zero, suc, ◌<◌, List, ◌∷◌, Bool, true, false, if◌then◌else◌, ◌&&◌, ◌==◌, length, Option, Some, None, arith, refl, sym, ap, ◌∙◌, subst, inl, inr}
use Rattle.std.specs.Option.{option_map}
use Rattle.css_text.specs.AsciiBytes.{asterisk, slash}
use Rattle.css_text.specs.Bytes.{starts}
use Rattle.css_text.specs.Characters.{is_space}
use Rattle.css_text.specs.Comments.{opens_comment, after_close, after_comment, blank_part, past_blank}
use Rattle.css_text.proofs.reading.EachLemmas.{each-none, each-some}
use Rattle.css_text.proofs.reading.TakesLemmas.{Leaves, after_close-leaves, after_comment-leaves, blank_part-takes, length-past_blank}
use Rattle.simplecss_grammar.proofs.reading.LocalLemmas.{Diverge, at, on}
use Rattle.simplecss_grammar.proofs.reading.SearchLemmas.{FindsAlike, close-diverge}

-- a part of a blank, by the tests of its first byte
pub blank_part-by : (b : ℕ) (text : List ℕ) (s o : Bool) (c : Option (List ℕ)) → is_space b ≡ s
    → opens_comment (b ∷ text) ≡ o → after_comment (b ∷ text) ≡ c
    → blank_part (b ∷ text)
    ≡ (if s then Some (true, text) else (if o then option_map (λ rest. (false, rest)) c else None))
blank_part-by b text s o c = by (is_space b) (opens_comment (b ∷ text)) (after_comment (b ∷ text))
  where
    by : (x y : Bool) (z : Option (List ℕ)) → x ≡ s → y ≡ o → z ≡ c
        → Path (Option (Bool × List ℕ))
        (if x then Some (true, text) else (if y then option_map (λ rest. (false, rest)) z
        else None))
        (if s then Some (true, text) else (if o then option_map (λ rest. (false, rest)) c
        else None))
    by x y z e f g = rw (e, f, g) refl

-- a space byte before a blank belongs to it
pub past_blank-space : (b : ℕ) (text : List ℕ) → is_space b ≡ true
    → past_blank (b ∷ text) ≡ past_blank text
past_blank-space b text e =
    ap (λ r. r.1) (each-some blank_part blank_part-takes (b ∷ text) text true
    (blank_part-by b text true _ _ e refl refl))

past_blank-comment : (b : ℕ) (text rest : List ℕ) → is_space b ≡ false
    → opens_comment (b ∷ text) ≡ true → after_comment (b ∷ text) ≡ Some rest
    → past_blank (b ∷ text) ≡ past_blank rest
past_blank-comment b text rest e f g =
    ap (λ r. r.1) (each-some blank_part blank_part-takes (b ∷ text) rest false
    (blank_part-by b text false true (Some rest) e f g))

past_blank-none : (b : ℕ) (text : List ℕ) → is_space b ≡ false → opens_comment (b ∷ text) ≡ false
    → past_blank (b ∷ text) ≡ b ∷ text
past_blank-none b text e f =
    ap (λ r. r.1) (each-none blank_part (b ∷ text) (blank_part-by b text false false _ e f refl))

past_blank-open : (b : ℕ) (text : List ℕ) → is_space b ≡ false → opens_comment (b ∷ text) ≡ true
    → after_comment (b ∷ text) ≡ None → past_blank (b ∷ text) ≡ b ∷ text
past_blank-open b text e f g =
    ap (λ r. r.1) (each-none blank_part (b ∷ text) (blank_part-by b text false true None e f g))

-- the blank in both texts, where more than the tail is left and no comment is open
abbrev BlankAgain : (t u r s : List ℕ) → Type 0
BlankAgain t u r s =
    length t < length (past_blank r) → opens_comment (past_blank r) ≡ false
    → Diverge t u (past_blank r) (past_blank s)

comment-again : (t u : List ℕ) (b : ℕ) (r s : List ℕ) → is_space b ≡ false
    → opens_comment (b ∷ r) ≡ true → Diverge t u r s
    → ((left other : List ℕ) → length left < length r → Diverge t u left other
    → BlankAgain t u left other) → BlankAgain t u (b ∷ r) (b ∷ s)
comment-again t u b r s e f at again l o = by (after_comment (b ∷ t)) refl
  where
    by : (k : Option (List ℕ)) → after_comment (b ∷ t) ≡ k
        → Diverge t u (past_blank (b ∷ t)) (past_blank (b ∷ u))
    by None g =
        absurd (let bare : opens_comment (b ∷ t) ≡ false = ap opens_comment
        (sym (past_blank-open b t e f g)) ∙ o in cc)
    by (Some rest) g =
        let less = after_comment-leaves b t in
        absurd (omega (
          arith,
          l,
          ap length (past_blank-comment b t rest e f g),
          length-past_blank rest,
          subst
              (λ (k : Option (List ℕ)). Leaves t k) g less,
        ))
comment-again t u b r s e f (on c r1 s1 h) again l o =
    by (after_close r1) refl (close-diverge t u r1 s1 h) (after_close-leaves r1)
  where
    by : (k : Option (List ℕ)) → after_close r1 ≡ k → FindsAlike t u k (after_close s1)
        → Leaves r1 k → Diverge t u (past_blank (b ∷ c ∷ r1)) (past_blank (b ∷ c ∷ s1))
    by None g k less =
        absurd (let bare : opens_comment (b ∷ c ∷ r1) ≡ false = ap opens_comment
        (sym (past_blank-open b (c ∷ r1) e f g)) ∙ o in cc)
    by (Some rest) g (inl k) less =
        absurd (omega
        (arith, l, ap length (past_blank-comment b (c ∷ r1) rest e f g), length-past_blank rest))
    by (Some rest) g (inr k) less =
        let first : past_blank (b ∷ c ∷ r1) ≡ past_blank rest =
        past_blank-comment b (c ∷ r1) rest e f g in
        let second : past_blank (b ∷ c ∷ s1) ≡ past_blank k.0 =
        past_blank-comment b (c ∷ s1) k.0 e f k.1 in
        rw (first, second)
        (again rest k.0 (omega arith) k.2 (omega (arith, l, ap length first))
        (ap opens_comment (sym first) ∙ o))

blank-within : (n : ℕ) (t u : List ℕ) → starts asterisk u ≡ false → (r s : List ℕ) → length r < n
    → Diverge t u r s → BlankAgain t u r s
blank-within zero t u star r s less h l o = absurd (omega arith)
blank-within (suc n) t u star r s less at l o = absurd (omega (arith, l, length-past_blank t))
blank-within (suc n) t u star r s less (on b r1 s1 h) l o =
    by (is_space b) (opens_comment (b ∷ r1)) refl refl (λ x y k j. blank-within n t u star x y k j)
  where
    closed : (x y : List ℕ) → Diverge t u x y → opens_comment (b ∷ x) ≡ false
        → opens_comment (b ∷ y) ≡ false
    closed x y at k = rw star (no_second (b == slash))
      where
        no_second : (t : Bool) → (t && false) ≡ false
        no_second true = refl
        no_second false = refl
    closed x y (on c x1 y1 j) k = k

    by : (i k : Bool) → is_space b ≡ i → opens_comment (b ∷ r1) ≡ k
        → ((x y : List ℕ) → length x < n → Diverge t u x y → BlankAgain t u x y)
        → Diverge t u (past_blank (b ∷ r1)) (past_blank (b ∷ s1))
    by true k e f again =
        let first = past_blank-space b r1 e in
        let second = past_blank-space b s1 e in
        rw (first, second)
        (again r1 s1 (omega arith) h (omega (arith, l, ap length first))
        (ap opens_comment (sym first) ∙ o))
    by false true e f again =
        comment-again t u b r1 s1 e f h (λ x y k j. again x y (omega arith) j) l o
    by false false e f again =
        let first = past_blank-none b r1 e f in
        let second = past_blank-none b s1 e (closed r1 s1 h f) in
        rw (first, second) (on b r1 s1 h)

-- a blank is read alike where more than the tail is left
pub past_blank-alike : (t u : List ℕ) → starts asterisk u ≡ false → (r s : List ℕ) → Diverge t u r s
    → length t < length (past_blank r) → opens_comment (past_blank r) ≡ false
    → Diverge t u (past_blank r) (past_blank s)
past_blank-alike t u star r s h l o = blank-within (suc (length r)) t u star r s (omega arith) h l o
