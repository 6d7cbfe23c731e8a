-- One law of locality: what a reading did not reach, it does not depend on. Two texts are alike up
-- to where they part. A reader that stops before that offset reads both alike.
-- Serves `Lawful` (what every reader owes): `StyleSheet::{parse, parse_more, read}` and
-- `laws::cutting_law`.
use Rattle.std.proofs.Common.{◌≡◌, ℕ, zero, suc, ◌+◌, ◌-◌, ◌<◌, ◌≤◌, List, [], ◌∷◌, ◌++◌, Bool, true, false, if◌then◌else◌, ◌==◌, length, take, drop, length-drop, length-append, Option, Some, None, arith, refl, ap, ◌⊎◌, inl, inr, one-add, IsUtf8}
use Rattle.std.specs.List.{prefix_len}
use Rattle.css_text.specs.AsciiBytes.{asterisk, close_brace, exclamation_mark, full_stop, hyphen, open_parenthesis, percent_sign, semicolon, space}
use Rattle.css_text.specs.Reading.{Fault, Reading, got, fails, Reader, follow, followed_by, each, left_after, before}
use Rattle.css_text.specs.Bytes.{past, past_one, past_byte, starts, byte, is_digit, is_hex_digit}
use Rattle.css_text.specs.Characters.{Edition, first_edition, second_edition, is_name_start, is_name_char}
use Rattle.css_text.proofs.reading.EachLemmas.{Takes, took, each-none, each-some}
use Rattle.css_text.proofs.reading.TakesLemmas.{Keeps, each-within, length-past}

-- ---- where two texts part

-- Two texts with the same front, and then t in the first and u in the second.
pub data Diverge (t u : List ℕ) : List ℕ → List ℕ → Type 0 where
  at : Diverge t u t u
  on : (b : ℕ) (r s : List ℕ) → Diverge t u r s → Diverge t u (b ∷ r) (b ∷ s)

-- a byte that continues nothing: it is none of a name, a number, arguments, a comment or a value
pub record ContinuesNothing (edition : Edition) (q : ℕ) : Type 0 where
  pub low : q < 128
  pub no_char : is_name_char edition q ≡ false
  pub no_start : is_name_start edition q ≡ false
  pub no_digit : is_digit q ≡ false
  pub no_hex : is_hex_digit q ≡ false
  pub no_point : (q == full_stop) ≡ false
  pub no_percent : (q == percent_sign) ≡ false
  pub no_opening : (q == open_parenthesis) ≡ false
  pub no_star : (q == asterisk) ≡ false
  pub no_hyphen : (q == hyphen) ≡ false

in_both : (F : Edition → Bool) → F first_edition ≡ false → F second_edition ≡ false
    → (edition : Edition) → F edition ≡ false
in_both F first second first_edition = first
in_both F first second second_edition = second

quiet-by : {q : ℕ} → q < 128 → is_name_char first_edition q ≡ false
    → is_name_char second_edition q ≡ false → is_name_start first_edition q ≡ false
    → is_name_start second_edition q ≡ false → is_digit q ≡ false → is_hex_digit q ≡ false
    → (q == full_stop) ≡ false → (q == percent_sign) ≡ false → (q == open_parenthesis) ≡ false
    → (q == asterisk) ≡ false
    → (q == hyphen) ≡ false → (edition : Edition) → ContinuesNothing edition q
quiet-by {q} low c d s e digit hex point percent opening star not_hyphen edition = record {
  low = low;
  no_char = in_both (λ f. is_name_char f q) c d edition;
  no_start = in_both (λ f. is_name_start f q) s e edition;
  no_digit = digit;
  no_hex = hex;
  no_point = point;
  no_percent = percent;
  no_opening = opening;
  no_star = star;
  no_hyphen = not_hyphen;
}

pub quiet-brace : (edition : Edition) → ContinuesNothing edition close_brace
quiet-brace = quiet-by (omega arith) refl refl refl refl refl refl refl refl refl refl refl

pub quiet-semicolon : (edition : Edition) → ContinuesNothing edition semicolon
quiet-semicolon = quiet-by (omega arith) refl refl refl refl refl refl refl refl refl refl refl

pub quiet-space : (edition : Edition) → ContinuesNothing edition space
quiet-space = quiet-by (omega arith) refl refl refl refl refl refl refl refl refl refl refl

pub quiet-mark : (edition : Edition) → ContinuesNothing edition exclamation_mark
quiet-mark = quiet-by (omega arith) refl refl refl refl refl refl refl refl refl refl refl

-- How two texts part. `at_brace`: both at a closing brace, where the second ends where the first is
-- cut. `at_quiet`: the first at any text, the second at a byte that continues nothing. The Bool is
-- whether faults are alike too.
pub data Seam (edition : Edition) : Bool → List ℕ → List ℕ → Type 0 where
  at_brace : (u v : List ℕ) → Seam edition true (close_brace ∷ (u ++ v)) (close_brace ∷ u)
  at_quiet : (t : List ℕ) (q : ℕ) (more : List ℕ) → ContinuesNothing edition q → IsUtf8 t
      → Seam edition false t (q ∷ more)

-- ---- the same readings

-- what is left is after the offset where the first text parts, or its byte there was passed
abbrev pub Beyond : Bool → List ℕ → List ℕ → Type 0
Beyond true t r = length r ≤ length (past_one t)
Beyond false t r = length r < length t

-- or both texts are still alike
abbrev pub To : Bool → List ℕ → List ℕ → List ℕ → List ℕ → Type 0
To c t u r s = Beyond c t r ⊎ Diverge t u r s

-- the reading passed the offset, or it is a fault of which nothing is claimed
abbrev pub Passed : {A : Type 0} → Bool → List ℕ → Reading A → Type 0
Passed true t a = length (left_after a) ≤ length (past_one t)
Passed false t (got x r) = length r < length t
Passed false t (fails f r) = Unit {0}

-- the same was read, up to the same offset
abbrev pub Alike : {A : Type 0} → (A → A → Type 0) → List ℕ → List ℕ → Reading A → Reading A
    → Type 0
Alike R t u (got x r) (got y s) = R x y × Diverge t u r s
Alike R t u (got x r) (fails f s) = ⊥
Alike R t u (fails f r) (got y s) = ⊥
Alike R t u (fails f r) (fails e s) = Diverge t u r s

-- of two readings, the first passed the offset, or both are alike
abbrev pub Guard : {A : Type 0} → (A → A → Type 0) → Bool → List ℕ → List ℕ → Reading A → Reading A
    → Type 0
Guard R c t u a b = Passed c t a ⊎ Alike R t u a b

abbrev pub Equal : {A : Type 0} → A → A → Type 0
Equal x y = x ≡ y

pub beyond-within : (c : Bool) (t r left : List ℕ) → length left ≤ length r → Beyond c t r
    → Beyond c t left
beyond-within true t r left l h = omega arith
beyond-within false t r left l h = omega arith

pub beyond-less : (c : Bool) (t r : List ℕ) → length r < length t → Beyond c t r
beyond-less true [] r l = absurd (omega arith)
beyond-less true (b ∷ t) r l = omega arith
beyond-less false t r l = l

pub passed-beyond : {A : Type 0} (c : Bool) (t : List ℕ) (a : Reading A) → Beyond c t (left_after a)
    → Passed c t a
passed-beyond true t a h = h
passed-beyond false t (got x r) h = h
passed-beyond false t (fails f r) h = tt

passed-got : {A : Type 0} (c : Bool) (t r : List ℕ) (x : A) → Passed c t (got x r) → Beyond c t r
passed-got true t r x h = h
passed-got false t r x h = h

passed-fails : (A B : Type 0) (c : Bool) (t r : List ℕ) (f : Fault) → Passed {A = A} c t (fails f r)
    → Passed {A = B} c t (fails f r)
passed-fails A B true t r f h = h
passed-fails A B false t r f h = tt

-- one thing after another
pub guard-follow : {A B : Type 0} (R : A → A → Type 0) (Q : B → B → Type 0) (c : Bool)
    (t u : List ℕ) (a b : Reading A) (m n : A → Reader B) → ((x : A) (r : List ℕ) → Keeps r (m x r))
    → IsUtf8 (left_after a) → Guard R c t u a b
    → ((x y : A) → R x y → (r s : List ℕ) → IsUtf8 r → Diverge t u r s
    → Guard Q c t u (m x r) (n y s)) → Guard Q c t u (follow a m) (follow b n)
guard-follow R Q c t u (got x r) b m n keeps v (inl h) next =
    inl (passed-beyond c t (m x r)
    (beyond-within c t r (left_after (m x r)) (keeps x r) (passed-got c t r x h)))
guard-follow {A = A} {B = B} R Q c t u (fails f r) b m n keeps v (inl h) next =
    inl (passed-fails A B c t r f h)
guard-follow R Q c t u (got x r) (got y s) m n keeps v (inr h) next = next x y h.0 r s v h.1
guard-follow R Q c t u (got x r) (fails f s) m n keeps v (inr h) next = absurd h
guard-follow R Q c t u (fails f r) (got y s) m n keeps v (inr h) next = absurd h
guard-follow R Q c t u (fails f r) (fails e s) m n keeps v (inr h) next = inr h

-- a choice by a test that comes out the same
pub guard-if : {A : Type 0} (R : A → A → Type 0) (k : Bool) (t u : List ℕ) (c d : Bool)
    (a b x y : Reading A) → c ≡ d → Guard R k t u a b → Guard R k t u x y
    → Guard R k t u (if c then a else x) (if d then b else y)
guard-if R k t u true true a b x y e p q = p
guard-if R k t u false false a b x y e p q = q
guard-if R k t u true false a b x y e p q = absurd (cc)
guard-if R k t u false true a b x y e p q = absurd (cc)

-- a value, and what is left
pub guard-got : {A : Type 0} (R : A → A → Type 0) (c : Bool) (t u : List ℕ) (x y : A) (r s : List ℕ)
    → R x y → To c t u r s → Guard R c t u (got x r) (got y s)
guard-got R c t u x y r s e (inl h) = inl (passed-beyond c t (got x r) h)
guard-got R c t u x y r s e (inr h) = inr (e, h)

-- what is left after either, where both are guarded
pub left-to : {A : Type 0} (R : A → A → Type 0) (t u : List ℕ) (a b : Reading A)
    → Guard R true t u a b → To true t u (left_after a) (left_after b)
left-to R t u a b (inl h) = inl h
left-to R t u (got x r) (got y s) (inr h) = inr h.1
left-to R t u (got x r) (fails f s) (inr h) = absurd h
left-to R t u (fails f r) (got y s) (inr h) = absurd h
left-to R t u (fails f r) (fails e s) (inr h) = inr h

-- ---- bytes

-- after the first byte
pub past_one-to : (c : Bool) (t u r s : List ℕ) → 0 < length r → Diverge t u r s
    → To c t u (past_one r) (past_one s)
past_one-to c [] u r s some at = absurd (omega arith)
past_one-to c (b ∷ t) u r s some at = inl (beyond-less c (b ∷ t) t (omega arith))
past_one-to c t u r s some (on b r1 s1 h) = inr h

-- the next byte is the same
pub starts-diverge : (g : ℕ) (t u : List ℕ) (c : ℕ) (r s : List ℕ) → Diverge (g ∷ t) (g ∷ u) r s
    → starts c r ≡ starts c s
starts-diverge g t u c r s at = refl
starts-diverge g t u c r s (on b r1 s1 h) = refl

-- it is, or the first text has parted there, and the second has a byte that continues nothing
pub starts-seam : {edition : Edition} (c : Bool) (t u : List ℕ) (n : ℕ)
    → ((q : ℕ) → c ≡ false → ContinuesNothing edition q → (q == n) ≡ false) → Seam edition c t u
    → (r s : List ℕ) → Diverge t u r s
    → (starts n r ≡ starts n s) ⊎ ((c ≡ false) × (r ≡ t) × (starts n r ≡ true))
starts-seam c t u n other m r s (on b r1 s1 h) = inl refl
starts-seam c t u n other (at_brace x y) r s at = inl refl
starts-seam c t u n other (at_quiet _ q more w z) r s at = by (starts n t) refl
  where
    by : (k : Bool) → starts n t ≡ k → (k ≡ (q == n)) ⊎ ((false ≡ false) × (t ≡ t) × (k ≡ true))
    by true e = inr (refl, refl, refl)
    by false e = inl (let no = other q refl w in rw no refl)

-- where both part at a brace
pub at-brace : {edition : Edition} (P : List ℕ → List ℕ → Type 0)
    → ((u v : List ℕ) → P (close_brace ∷ (u ++ v)) (close_brace ∷ u)) → (t u : List ℕ)
    → Seam edition true t u
    → P t u
at-brace P h t u (at_brace x y) = h x y

pub past_one-diverge : (g : ℕ) (t u r s : List ℕ) → Diverge (g ∷ t) (g ∷ u) r s
    → To true (g ∷ t) (g ∷ u) (past_one r) (past_one s)
past_one-diverge g t u r s at = inl (omega arith)
past_one-diverge g t u r s (on b r1 s1 h) = inr h

-- a byte is consumed, if it is there
pub past_byte-to : (t u : List ℕ) (c : ℕ) → past_byte c u ≡ u → (r s : List ℕ) → Diverge t u r s
    → (length (past_byte c r) < length t) ⊎ Diverge t u (past_byte c r) (past_byte c s)
past_byte-to [] u c e r s at = inr (rw e at)
past_byte-to (b ∷ t) u c e r s at = rw e (by (b == c))
  where
    by : (k : Bool) → (length (if k then t else b ∷ t) < length (b ∷ t)) ⊎ Diverge (b ∷ t) u
        (if k then t else b ∷ t) u
    by true = inl (omega arith)
    by false = inr at
past_byte-to t u c e r s (on b r1 s1 h) = by (b == c)
  where
    by : (k : Bool)
        → (length (if k then r1 else b ∷ r1) < length t) ⊎ Diverge t u (if k then r1 else b ∷ r1)
        (if k then s1 else b ∷ s1)
    by true = inr h
    by false = inr (on b r1 s1 h)

pub byte-guarded : (g : ℕ) (t u : List ℕ) (c : ℕ) (r s : List ℕ) → Diverge (g ∷ t) (g ∷ u) r s
    → Guard Equal true (g ∷ t) (g ∷ u) (byte c r) (byte c s)
byte-guarded g t u c r s at =
    guard-if Equal true (g ∷ t) (g ∷ u) (g == c) (g == c) _ _ _ _ refl (inl (omega arith)) (inr at)
byte-guarded g t u c r s (on b r1 s1 h) =
    guard-if Equal true (g ∷ t) (g ∷ u) (b == c) (b == c) _ _ _ _ refl (inr (refl, h))
    (inr (on b r1 s1 h))

-- a run of bytes, by what it comes to where the texts part
past-to : (c : Bool) (t u : List ℕ) (test : ℕ → Bool) → To c t u (past test t) (past test u)
    → (r s : List ℕ) → Diverge t u r s → To c t u (past test r) (past test s)
past-to c t u test parts r s at = parts
past-to c t u test parts r s (on b r1 s1 h) = by (test b) refl (past-to c t u test parts r1 s1 h)
  where
    by : (k : Bool) → test b ≡ k → To c t u (past test r1) (past test s1)
        → To c t u (past test (b ∷ r1)) (past test (b ∷ s1))
    by true e more = rw (e, one-add (prefix_len test r1), one-add (prefix_len test s1)) more
    by false e more = rw e (inr (on b r1 s1 h))

-- at the same byte, whether the run ends there or not
past-same : (g : ℕ) (t u : List ℕ) (test : ℕ → Bool)
    → To true (g ∷ t) (g ∷ u) (past test (g ∷ t)) (past test (g ∷ u))
past-same g t u test = by (test g) refl
  where
    by : (k : Bool) → test g ≡ k → To true (g ∷ t) (g ∷ u) (past test (g ∷ t)) (past test (g ∷ u))
    by true e = rw (e, one-add (prefix_len test t)) (inl (length-past test t))
    by false e = rw e (inr at)

pub past-both : (g : ℕ) (t u : List ℕ) (test : ℕ → Bool) (r s : List ℕ)
    → Diverge (g ∷ t) (g ∷ u) r s
    → To true (g ∷ t) (g ∷ u) (past test r) (past test s)
past-both g t u test r s h = past-to true (g ∷ t) (g ∷ u) test (past-same g t u test) r s h

-- where the second text ends it
past-ended : (t u : List ℕ) (test : ℕ → Bool) → past test u ≡ u
    → To false t u (past test t) (past test u)
past-ended [] u test e = rw e (inr at)
past-ended (b ∷ t) u test e = rw e (by (test b) refl)
  where
    by : (k : Bool) → test b ≡ k → To false (b ∷ t) u (past test (b ∷ t)) u
    by true f = rw (f, one-add (prefix_len test t)) (inl (omega (arith, length-past test t)))
    by false f = rw f (inr at)

-- a run that the byte ends at which the second text parts
pub past-seam : {edition : Edition} (c : Bool) (t u : List ℕ) (test : ℕ → Bool)
    → ((q : ℕ) → ContinuesNothing edition q → test q ≡ false) → Seam edition c t u → (r s : List ℕ)
    → Diverge t u r s → To c t u (past test r) (past test s)
past-seam c t u test ends (at_brace x v) r s h = past-both close_brace (x ++ v) x test r s h
past-seam c t u test ends (at_quiet _ q more w v) r s h =
    past-to false t (q ∷ more) test (past-ended t (q ∷ more) test (let e = ends q w in rw e refl)) r
    s h

-- a run that g ends
pub past-diverge : (g : ℕ) (t u : List ℕ) (test : ℕ → Bool) → test g ≡ false → (r s : List ℕ)
    → Diverge (g ∷ t) (g ∷ u) r s → Diverge (g ∷ t) (g ∷ u) (past test r) (past test s)
past-diverge g t u test e r s at = rw e at
past-diverge g t u test e r s (on b r1 s1 h) = by (test b) refl (past-diverge g t u test e r1 s1 h)
  where
    by : (k : Bool) → test b ≡ k → Diverge (g ∷ t) (g ∷ u) (past test r1) (past test s1)
        → Diverge (g ∷ t) (g ∷ u) (past test (b ∷ r1)) (past test (b ∷ s1))
    by true f ih = rw (f, one-add (prefix_len test r1), one-add (prefix_len test s1)) ih
    by false f ih = rw f (on b r1 s1 h)

pub drop-to : (g : ℕ) (t u : List ℕ) (n : ℕ) (r s : List ℕ) → Diverge (g ∷ t) (g ∷ u) r s
    → To true (g ∷ t) (g ∷ u) (drop n r) (drop n s)
drop-to g t u zero r s h = inr h
drop-to g t u (suc n) r s at = inl (omega (arith, length-drop n t))
drop-to g t u (suc n) r s (on b r1 s1 h) = drop-to g t u n r1 s1 h

-- ---- lengths and fronts

pub length-diverge : (t u r s : List ℕ) → Diverge t u r s
    → length r + length u ≡ length s + length t
length-diverge t u r s at = omega arith
length-diverge t u r s (on b r1 s1 h) = omega (arith, length-diverge t u r1 s1 h)

pub longer-diverge : (t u r s : List ℕ) → Diverge t u r s → length t ≤ length r
longer-diverge t u r s at = omega arith
longer-diverge t u r s (on b r1 s1 h) = omega (arith, longer-diverge t u r1 s1 h)

-- their fronts are the same
take-diverge : (t u : List ℕ) (n : ℕ) (r s : List ℕ) → Diverge t u r s → n + length t ≤ length r
    → take n r ≡ take n s
take-diverge t u zero r s h l = refl
take-diverge t u (suc n) r s at l = absurd (omega arith)
take-diverge t u (suc n) r s (on b r1 s1 h) l =
    ap (λ (x : List ℕ). b ∷ x) (take-diverge t u n r1 s1 h (omega arith))

pub before-diverge : (t u r s r1 s1 : List ℕ) → Diverge t u r s → Diverge t u r1 s1
    → before r r1 ≡ before s s1
before-diverge t u r s r1 s1 h k =
    let n : length s - length s1 ≡ length r - length r1 =
    omega (arith, length-diverge t u r s h, length-diverge t u r1 s1 k) in
    rw n (take-diverge t u (length r - length r1) r s h
    (omega (arith, longer-diverge t u r s h, longer-diverge t u r1 s1 k)))

-- one front before both
pub diverge-front : (t u front : List ℕ) → Diverge t u (front ++ t) (front ++ u)
diverge-front t u [] = at
diverge-front t u (b ∷ front) = on b (front ++ t) (front ++ u) (diverge-front t u front)

-- the front of both
pub diverge-split : (t u r s : List ℕ) → Diverge t u r s
    → (front : List ℕ) × (r ≡ front ++ t) × (s ≡ front ++ u)
diverge-split t u r s at = ([], refl, refl)
diverge-split t u r s (on b r1 s1 h) =
    let more = diverge-split t u r1 s1 h in
    (b ∷ more.0, ap (λ x. b ∷ x) more.1, ap (λ x. b ∷ x) more.2)

-- after the front of the first text the second has its tail
pub diverge-end : (t u left : List ℕ) → Diverge t u t left → left ≡ u
diverge-end t u left h = by (diverge-split t u t left h)
  where
    by : (front : List ℕ) × (t ≡ front ++ t) × (left ≡ front ++ u) → left ≡ u
    by ([], e, f) = f
    by (b ∷ front, e, f) = absurd (omega (arith, ap length e, length-append front t))

-- the second text and what is cut off make the first
pub diverge-append : (g : ℕ) (u v r s : List ℕ) → Diverge (g ∷ (u ++ v)) (g ∷ u) r s → r ≡ s ++ v
diverge-append g u v r s at = refl
diverge-append g u v r s (on b r1 s1 h) = ap (λ (x : List ℕ). b ∷ x) (diverge-append g u v r1 s1 h)

-- ---- what repeats

-- a value with what is left: what is left follows the brace, or both are alike
abbrev pub Same : {A : Type 0} → List ℕ → List ℕ → A × List ℕ → A × List ℕ → Type 0
Same t u a b =
    (length a.1 ≤ length t) ⊎ ((a.0 ≡ b.0) × Diverge (close_brace ∷ t) (close_brace ∷ u) a.1 b.1)

-- each item of one list with that of the other
abbrev pub Pairs : {A : Type 0} → (A → A → Type 0) → List A → List A → Type 0
Pairs R [] [] = Unit {0}
Pairs R [] (y ∷ ys) = ⊥
Pairs R (x ∷ xs) [] = ⊥
Pairs R (x ∷ xs) (y ∷ ys) = R x y × Pairs R xs ys

pub pairs-equal : {A : Type 0} (xs ys : List A) → Pairs Equal xs ys → xs ≡ ys
pairs-equal [] [] h = refl
pairs-equal [] (y ∷ ys) h = absurd h
pairs-equal (x ∷ xs) [] h = absurd h
pairs-equal {A = A} (x ∷ xs) (y ∷ ys) h =
    let e : x ≡ y = h.0 in let f : xs ≡ ys = pairs-equal xs ys h.1 in rw (e, f) refl

-- One step of a repetition from r, and one from s. Where only the second finds something, the first
-- is stuck.
abbrev pub Step : {A : Type 0} → (A → A → Type 0) → (List ℕ → Type 0) → ℕ → List ℕ → List ℕ → List ℕ
    → Option (A × List ℕ) → Option (A × List ℕ) → Type 0
Step R Stuck g t u r None None = Unit {0}
Step R Stuck g t u r None (Some y) = Stuck r
Step R Stuck g t u r (Some x) None = length x.1 ≤ length t
Step R Stuck g t u r (Some x) (Some y) =
    (length x.1 ≤ length t) ⊎ (R x.0 y.0 × Diverge (g ∷ t) (g ∷ u) x.1 y.1)

-- no text is stuck
abbrev pub Never : List ℕ → Type 0
Never r = ⊥

-- What repeating comes to: it has passed g, or it is stuck, or it is alike
abbrev pub Repeats : {A : Type 0} → (A → A → Type 0) → (List ℕ → Type 0) → ℕ → List ℕ → List ℕ
    → List A × List ℕ → List A × List ℕ → Type 0
Repeats R Stuck g t u a b =
    (length a.1 ≤ length t) ⊎ (Stuck a.1 ⊎ (Pairs R a.0 b.0 × Diverge (g ∷ t) (g ∷ u) a.1 b.1))

repeats-more : {A : Type 0} (R : A → A → Type 0) (Stuck : List ℕ → Type 0) (g : ℕ) (t u : List ℕ)
    (x y : A) (a b : List A × List ℕ) → R x y → Repeats R Stuck g t u a b
    → Repeats R Stuck g t u (followed_by x a) (followed_by y b)
repeats-more R Stuck g t u x y a b e (inl h) = inl h
repeats-more R Stuck g t u x y a b e (inr (inl h)) = inr (inl h)
repeats-more R Stuck g t u x y a b e (inr (inr h)) = inr (inr ((e, h.0), h.1))

pub each-repeats : {A : Type 0} (P : List ℕ → Type 0) (R : A → A → Type 0) (Stuck : List ℕ → Type 0)
    (g : ℕ) (t u : List ℕ) (read : List ℕ → Option (A × List ℕ)) → Takes read
    → ((text rest : List ℕ) (x : A) → P text → read text ≡ Some (x, rest) → P rest)
    → ((r s : List ℕ) → P r → Diverge (g ∷ t) (g ∷ u) r s → Step R Stuck g t u r (read r) (read s))
    → (n : ℕ) (r s : List ℕ) → length r ≤ n → P r → Diverge (g ∷ t) (g ∷ u) r s
    → Repeats R Stuck g t u (each read r) (each read s)
each-repeats P R Stuck g t u read takes keeps steps zero r s l p h =
    absurd (omega (arith, longer-diverge (g ∷ t) (g ∷ u) r s h))
each-repeats {A = A} P R Stuck g t u read takes keeps steps (suc n) r s l p h =
    by (λ a b k i j. each-repeats P R Stuck g t u read takes keeps steps n a b k i j) (read r)
    (read s) refl refl (steps r s p h)
  where
    by : ((a b : List ℕ) → length a ≤ n → P a → Diverge (g ∷ t) (g ∷ u) a b
        → Repeats R Stuck g t u (each read a) (each read b)) → (o p : Option (A × List ℕ))
        → read r ≡ o → read s ≡ p → Step R Stuck g t u r o p
        → Repeats R Stuck g t u (each read r) (each read s)
    by more None None e f k = rw (each-none read r e, each-none read s f) (inr (inr (tt, h)))
    by more None (Some y) e f k = rw (each-none read r e) (inr (inl k))
    by more (Some x) None e f k =
        let e1 : each read r ≡ followed_by x.0 (each read x.1) = each-some read takes r x.1 x.0 e in
        rw e1 (inl (omega (arith, each-within read takes x.1)))
    by more (Some x) (Some y) e f (inl k) =
        let e1 : each read r ≡ followed_by x.0 (each read x.1) = each-some read takes r x.1 x.0 e in
        rw e1 (inl (omega (arith, each-within read takes x.1)))
    by more (Some x) (Some y) e f (inr k) =
        let e1 : each read r ≡ followed_by x.0 (each read x.1) = each-some read takes r x.1 x.0 e in
        let f1 : each read s ≡ followed_by y.0 (each read y.1) = each-some read takes s y.1 y.0 f in
        let less : length x.1 < length r = took read takes r x.1 x.0 e in
        rw (e1, f1)
        (repeats-more R Stuck g t u x.0 y.0 (each read x.1) (each read y.1) k.0
        (more x.1 y.1 (omega arith) (keeps r x.1 x.0 p e) k.1))
