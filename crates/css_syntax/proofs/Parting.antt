-- Two texts that are alike up to where they part, and readers of them that stop there or before.
-- Serves `laws::printed_declarations_read_back`.
use Rattle.std.proofs.Common.{◌≡◌, ℕ, zero, suc, ◌<◌, ◌≤◌, ◌==◌, Bool, true, false, List, [], ◌∷◌, length, Option, Some, None, arith, refl, sym, ap, subst, if◌then◌else◌, eqb-true, ◌⊎◌, inl, inr}
use Rattle.css_text.specs.AsciiBytes.{newline, carriage_return, backslash}
use Rattle.css_text.specs.Reading.{each}
use Rattle.css_text.specs.Bytes.{past, past_byte, is_hex_digit}
use Rattle.css_text.specs.Characters.{is_space}
use Rattle.css_text.proofs.reading.EachLemmas.{Takes, took, each-none, each-some, option_cases}
use Rattle.css_text.proofs.reading.TakesLemmas.{each-within, length-past, length-past_byte}
use Rattle.css_text.proofs.bytes.RunLemmas.{past-yes, past-no}
use Rattle.css_syntax.specs.Tokens.{is_newline, past_one_space, past_hex, past_escape}
use Rattle.css_syntax.proofs.Shorter.{past_one_space-within, past_hex-within}

-- Two texts with the same front, and then t in the first and u in the second. Each backslash of the
-- front is with the byte after it, so the front does not end in a lone one.
pub data Parting (t u : List ℕ) : List ℕ → List ℕ → Type 0 where
  at : Parting t u t u
  on : (b : ℕ) (r s : List ℕ) → (b == backslash) ≡ false → Parting t u r s
      → Parting t u (b ∷ r) (b ∷ s)
  pair : (c : ℕ) (r s : List ℕ) → Parting t u r s
      → Parting t u (backslash ∷ c ∷ r) (backslash ∷ c ∷ s)

-- if the first reading stops where the texts part or before, what is left of both is alike
abbrev pub Kept : (t u : List ℕ) → List ℕ → List ℕ → Type 0
Kept t u r s = length t ≤ length r → Parting t u r s

pub parting-longer : (t u r s : List ℕ) → Parting t u r s → length t ≤ length r
parting-longer t u r s at = omega arith
parting-longer t u r s (on b r1 s1 e h) = omega (arith, parting-longer t u r1 s1 h)
parting-longer t u r s (pair c r1 s1 h) = omega (arith, parting-longer t u r1 s1 h)

-- what is left is the end
pub parting-end : (t u r s : List ℕ) → Parting t u r s → length r ≤ length t → (r ≡ t) × (s ≡ u)
parting-end t u r s at l = (refl, refl)
parting-end t u r s (on b r1 s1 e h) l = absurd (omega (arith, parting-longer t u r1 s1 h))
parting-end t u r s (pair c r1 s1 h) l = absurd (omega (arith, parting-longer t u r1 s1 h))

pub kept-if : (t u : List ℕ) (c : Bool) (a b x y : List ℕ) → Kept t u a x → Kept t u b y
    → Kept t u (if c then a else b) (if c then x else y)
kept-if t u true a b x y h k = h
kept-if t u false a b x y h k = k

-- ---- bytes and escapes

pub past_byte-kept : (t u : List ℕ) (c : ℕ) → (backslash == c) ≡ false → past_byte c u ≡ u
    → (r s : List ℕ) → Parting t u r s → Kept t u (past_byte c r) (past_byte c s)
past_byte-kept [] u c n e r s at = λ l. rw e at
past_byte-kept (b ∷ t) u c n e r s at = by (b == c)
  where
    by : (k : Bool) → Kept (b ∷ t) u (if k then t else b ∷ t) (past_byte c u)
    by true = λ l. absurd (omega arith)
    by false = λ l. rw e at
past_byte-kept t u c n e r s (on b r1 s1 f h) =
    kept-if t u (b == c) r1 (b ∷ r1) s1 (b ∷ s1) (λ l. h) (λ l. on b r1 s1 f h)
past_byte-kept t u c n e r s (pair d r1 s1 h) = λ l. rw n (pair d r1 s1 h)

pub past_one_space-kept : (t u : List ℕ) → past_byte newline u ≡ u → past_one_space u ≡ u
    → (r s : List ℕ) → Parting t u r s → Kept t u (past_one_space r) (past_one_space s)
past_one_space-kept [] u f e r s at = λ l. rw e at
past_one_space-kept (b ∷ t) u f e r s at = by (b == carriage_return) (is_space b)
  where
    by : (k m : Bool)
        → Kept (b ∷ t) u (if k then past_byte newline t else (if m then t else b ∷ t))
        (past_one_space u)
    by true m = λ l. absurd (omega (arith, l, length-past_byte newline t))
    by false true = λ l. absurd (omega arith)
    by false false = λ l. rw e at
past_one_space-kept t u f e r s (on b r1 s1 g h) =
    kept-if t u (b == carriage_return) _ _ _ _ (past_byte-kept t u newline refl f r1 s1 h)
    (kept-if t u (is_space b) r1 (b ∷ r1) s1 (b ∷ s1) (λ l. h) (λ l. on b r1 s1 g h))
past_one_space-kept t u f e r s (pair d r1 s1 h) = λ l. pair d r1 s1 h

pub past_hex-kept : (t u : List ℕ) → ((n : ℕ) → past_hex n u ≡ u) → (n : ℕ) (r s : List ℕ)
    → Parting t u r s → Kept t u (past_hex n r) (past_hex n s)
past_hex-kept t u e zero r s h = λ l. h
past_hex-kept [] u e (suc n) r s at = λ l. subst (Parting [] u []) (sym (e (suc n))) at
past_hex-kept (b ∷ t) u e (suc n) r s at = by (is_hex_digit b)
  where
    by : (k : Bool) → Kept (b ∷ t) u (if k then past_hex n t else b ∷ t) (past_hex (suc n) u)
    by true = λ l. absurd (omega (arith, l, past_hex-within n t))
    by false = λ l. subst (Parting (b ∷ t) u (b ∷ t)) (sym (e (suc n))) at
past_hex-kept t u e (suc n) r s (on b r1 s1 f h) =
    kept-if t u (is_hex_digit b) _ _ _ _ (past_hex-kept t u e n r1 s1 h) (λ l. on b r1 s1 f h)
past_hex-kept t u e (suc n) r s (pair d r1 s1 h) = λ l. pair d r1 s1 h

-- A text that continues no escape.
pub record Quiet (u : List ℕ) : Type 0 where
  pub newline_is : past_byte newline u ≡ u
  pub space_is : past_one_space u ≡ u
  pub hex_is : (n : ℕ) → past_hex n u ≡ u

-- a newline is no backslash
pub newline-no_backslash : (c : ℕ) → is_newline c ≡ true → (c == backslash) ≡ false
newline-no_backslash c e = by (c == backslash) refl
  where
    by : (k : Bool) → (c == backslash) ≡ k → (c == backslash) ≡ false
    by true f =
        absurd (let wrong : is_newline c ≡ false =
        subst (λ (x : ℕ). is_newline x ≡ false) (sym (eqb-true c backslash f)) refl in cc)
    by false f = f

-- what a backslash escapes
pub past_escape-kept : (t u : List ℕ) → Quiet u → (c : ℕ) (r s : List ℕ) → Parting t u r s
    → Kept t u (past_escape (c ∷ r)) (past_escape (c ∷ s))
unfolding past_escape
past_escape-kept t u q c r s h =
    kept-if t u (is_hex_digit c) _ _ _ _
    (λ l. past_one_space-kept t u q.newline_is q.space_is (past_hex 5 r) (past_hex 5 s)
    (past_hex-kept t u q.hex_is 5 r s h (omega (arith, l, past_one_space-within (past_hex 5 r)))) l)
    (by (is_newline c) refl)
  where
    by : (k : Bool) → is_newline c ≡ k
        → Kept t u (if k then past_one_space (c ∷ r) else r)
        (if k then past_one_space (c ∷ s) else s)
    by true e =
        past_one_space-kept t u q.newline_is q.space_is (c ∷ r) (c ∷ s)
        (on c r s (newline-no_backslash c e) h)
    by false e = λ l. h

-- a run of bytes that ends before the texts part
pub past-kept : (t u : List ℕ) (test : ℕ → Bool) → test backslash ≡ false → (r s : List ℕ)
    → Parting t u r s
    → length t < length (past test r) → Parting t u (past test r) (past test s)
past-kept t u test n r s at l = absurd (omega (arith, l, length-past test t))
past-kept t u test n r s (on b r1 s1 f h) l = by (past-kept t u test n r1 s1 h) (test b) refl
  where
    by : (length t < length (past test r1) → Parting t u (past test r1) (past test s1))
        → (k : Bool) → test b ≡ k → Parting t u (past test (b ∷ r1)) (past test (b ∷ s1))
    by more true e =
        let less : length t < length (past test r1) =
        subst (λ (x : List ℕ). length t < length x) (past-yes test b r1 e) l in
        rw (past-yes test b r1 e, past-yes test b s1 e) (more less)
    by more false e = rw (past-no test b r1 e, past-no test b s1 e) (on b r1 s1 f h)
past-kept t u test n r s (pair c r1 s1 h) l =
    rw (past-no test backslash (c ∷ r1) n, past-no test backslash (c ∷ s1) n) (pair c r1 s1 h)

-- ---- one thing after another

-- What is found in both texts, if the first reading stops where `n` bytes are left or before: the
-- same.
abbrev pub Follows : {A : Type 0} → (A → Type 0) → (n : ℕ) (t u : List ℕ) → Option (A × List ℕ)
    → Option (A × List ℕ) → Type 0
Follows P n t u None None = Unit {0}
Follows P n t u None (Some y) = ⊥
Follows P n t u (Some x) None = length x.1 < n
Follows P n t u (Some x) (Some y) =
    P x.0 → n ≤ length x.1 → (x.0 ≡ y.0) × Parting t u x.1 y.1

pub follows-if : {A : Type 0} (P : A → Type 0) (n : ℕ) (t u : List ℕ) (c : Bool)
    (a b x y : Option (A × List ℕ)) → Follows P n t u a x → Follows P n t u b y
    → Follows P n t u (if c then a else b) (if c then x else y)
follows-if P n t u true a b x y h k = h
follows-if P n t u false a b x y h k = k

abbrev pub Any : {A : Type 0} → A → Type 0
Any x = Unit {0}

-- each of the values does this
abbrev pub Every : {A : Type 0} → (A → Type 0) → List A → Type 0
Every P [] = Unit {0}
Every P (x ∷ xs) = P x × Every P xs

pub every-any : {A : Type 0} (xs : List A) → Every Any xs
every-any [] = tt
every-any (x ∷ xs) = (tt, every-any xs)

-- what `each` reads in both
abbrev pub EachKept : {A : Type 0} → (read : List ℕ → Option (A × List ℕ)) → (t u r s : List ℕ)
    → Type 0
EachKept read t u r s =
    ((each read r).0 ≡ (each read s).0) × Parting t u (each read r).1 (each read s).1

each-step : {A : Type 0} (P : A → Type 0) (read : List ℕ → Option (A × List ℕ)) → Takes read
    → (n : ℕ) (t u r s : List ℕ)
    → ((x y : A × List ℕ) → length x.1 < length r → Parting t u x.1 y.1
    → Every P (each read x.1).0 → n ≤ length (each read x.1).1 → EachKept read t u x.1 y.1)
    → Parting t u r s → Every P (each read r).0 → n ≤ length (each read r).1
    → Follows P n t u (read r) (read s) → EachKept read t u r s
each-step {A = A} P read takes n t u r s more h good l k =
    by (option_cases (read r)) (option_cases (read s))
  where
    by : (read r ≡ None) ⊎ ((x : A × List ℕ) × (read r ≡ Some x))
        → (read s ≡ None) ⊎ ((y : A × List ℕ) × (read s ≡ Some y)) → EachKept read t u r s
    by (inl e) (inl f) = rw (each-none read r e, each-none read s f) (refl, h)
    by (inl e) (inr y) = absurd (subst (Follows P n t u None) y.1
        (subst (λ o. Follows P n t u o (read s)) e k))
    by (inr x) (inl f) = absurd (
        let less : length x.0.1 < n = subst (Follows P n t u (Some x.0)) f
        (subst (λ o. Follows P n t u o (read s)) x.1 k) in
        let all = each-some read takes r x.0.1 x.0.0 x.1 in
        omega (arith, l, ap (λ (p : List A × List ℕ). length p.1) all, each-within read takes x.0.1)
        )
    by (inr x) (inr y) =
        let all = each-some read takes r x.0.1 x.0.0 x.1 in
        let also = each-some read takes s y.0.1 y.0.0 y.1 in
        let goods : P x.0.0 × Every P (each read x.0.1).0 =
        subst (λ (p : List A × List ℕ). Every P p.0) all good in
        let left : n ≤ length (each read x.0.1).1 =
        omega (arith, l, ap (λ (p : List A × List ℕ). length p.1) all) in
        let alike : P x.0.0 → n ≤ length x.0.1 → (x.0.0 ≡ y.0.0) × Parting t u x.0.1 y.0.1 =
        subst (Follows P n t u (Some x.0)) y.1 (subst (λ o. Follows P n t u o (read s)) x.1 k) in
        let first = alike goods.0 (omega (arith, left, each-within read takes x.0.1)) in
        let rest = more x.0 y.0 (took read takes r x.0.1 x.0.0 x.1) first.1 goods.1 left in
        rw (all, also) (cc (first.0, rest.0), rest.1)

pub each-kept : {A : Type 0} (P : A → Type 0) (read : List ℕ → Option (A × List ℕ)) → Takes read
    → (n : ℕ) (t u : List ℕ)
    → ((r s : List ℕ) → Parting t u r s → n ≤ length r → Follows P n t u (read r) (read s))
    → (m : ℕ) (r s : List ℕ) → length r ≤ m → Parting t u r s → Every P (each read r).0
    → n ≤ length (each read r).1 → EachKept read t u r s
each-kept P read takes n t u follow zero r s small h good l =
    each-step P read takes n t u r s (λ x y less g w e. absurd (omega (arith, less, small)))
    h good l
    (follow r s h (omega (arith, l, each-within read takes r)))
each-kept P read takes n t u follow (suc m) r s small h good l =
    each-step P read takes n t u r s
    (λ x y less g w e.
    each-kept P read takes n t u follow m x.1 y.1 (omega (arith, less, small)) g w e)
    h good l
    (follow r s h (omega (arith, l, each-within read takes r)))

-- the same, where only what is left counts
pub each_left-kept : (read : List ℕ → Option (Unit {0} × List ℕ)) → Takes read
    → (n : ℕ) (t u : List ℕ)
    → ((r s : List ℕ) → Parting t u r s → n ≤ length r → Follows Any n t u (read r) (read s))
    → (r s : List ℕ) → Parting t u r s → n ≤ length (each read r).1
    → Parting t u (each read r).1 (each read s).1
each_left-kept read takes n t u follow r s h l =
    (each-kept Any read takes n t u follow (length r) r s (omega arith) h
    (every-any (each read r).0) l).1
