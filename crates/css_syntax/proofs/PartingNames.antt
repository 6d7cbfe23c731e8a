-- A front without a lone backslash at its end, before either of two texts; and names, which have
-- none.
-- Serves `laws::printed_declarations_read_back`.
use Rattle.std.proofs.Common.{◌≡◌, ℕ, zero, suc, ◌<◌, ◌≤◌, ◌-◌, ◌==◌, not, Bool, true, false, List, [], ◌∷◌, ◌++◌, length, length-append, take, arith, refl, sym, ap, subst, ◌∙◌, if◌then◌else◌, eqb-true}
use Rattle.std.proofs.Math.Seq.{take-append_seam}
use Rattle.css_text.specs.AsciiBytes.{newline, carriage_return, backslash}
use Rattle.css_text.specs.Reading.{before}
use Rattle.css_text.specs.Bytes.{past_byte, is_hex_digit}
use Rattle.css_text.specs.Characters.{is_space}
use Rattle.css_syntax.specs.Tokens.{is_newline, past_one_space, past_hex, past_escape, begins_escape, is_name_byte, name_part, past_word}
use Rattle.css_syntax.specs.Printing.{ends_lone}
use Rattle.css_syntax.proofs.Shorter.{each-rests, past_escape-within}
use Rattle.css_syntax.proofs.RunSteps.{no_name_part}
use Rattle.css_syntax.proofs.Parting.{Parting, parting-longer}
use Rattle.css_syntax.proofs.Parting.Parting.{at, on, pair}
use Rattle.css_syntax.proofs.PartingUrls.{word-byte, word-escape}

pub parting-front : (t u front : List ℕ) → ends_lone front ≡ false
    → Parting t u (front ++ t) (front ++ u)
parting-front t u [] e = at
parting-front t u (b ∷ []) e = on b t u e at
parting-front t u (b ∷ c ∷ front) e =
    by (parting-front t u front) (parting-front t u (c ∷ front)) (b == backslash) refl e
  where
    by : (ends_lone front ≡ false → Parting t u (front ++ t) (front ++ u))
        → (ends_lone (c ∷ front) ≡ false → Parting t u (c ∷ (front ++ t)) (c ∷ (front ++ u)))
        → (k : Bool) → (b == backslash) ≡ k
        → (if k then ends_lone front else ends_lone (c ∷ front)) ≡ false
        → Parting t u (b ∷ c ∷ (front ++ t)) (b ∷ c ∷ (front ++ u))
    by more less true f e =
        subst (λ (x : ℕ). Parting t u (x ∷ c ∷ (front ++ t)) (x ∷ c ∷ (front ++ u)))
        (sym (eqb-true b backslash f)) (pair c (front ++ t) (front ++ u) (more e))
    by more less false f e = on b (c ∷ (front ++ t)) (c ∷ (front ++ u)) f (less e)

-- what is before the end
pub before-append : (front rest : List ℕ) → before (front ++ rest) rest ≡ front
before-append front rest =
    let n : length (front ++ rest) - length rest ≡ length front =
    omega (arith, length-append front rest) in
    ap (λ (k : ℕ). take k (front ++ rest)) n ∙ take-append_seam front rest

-- the second text is the front of the first, and then u
pub parting-before : (t u r s : List ℕ) → Parting t u r s → s ≡ before r t ++ u
parting-before t u r s h =
    let both = split r s h in
    both.1.1 ∙ ap (λ (x : List ℕ). x ++ u)
    (sym (ap (λ (x : List ℕ). before x t) both.1.0 ∙ before-append both.0 t))
  where
    split : (r s : List ℕ) → Parting t u r s
        → (front : List ℕ) × ((r ≡ front ++ t) × (s ≡ front ++ u))
    split r s at = ([], (refl, refl))
    split r s (on b r1 s1 e h) =
        let more = split r1 s1 h in
        (b ∷ more.0, (ap (λ (x : List ℕ). b ∷ x) more.1.0, ap (λ (x : List ℕ). b ∷ x) more.1.1))
    split r s (pair c r1 s1 h) =
        let more = split r1 s1 h in (
          backslash ∷ c ∷ more.0,
          (
            ap (λ (x : List ℕ). backslash ∷ c ∷ x) more.1.0,
            ap (λ (x : List ℕ). backslash ∷ c ∷ x) more.1.1,
          ),
        )

-- ---- names

-- a text that parts where a word of it ends
abbrev Parts : (t u : List ℕ) → List ℕ → Type 0
Parts t u r = (s : List ℕ) × Parting t u r s

-- a byte that passes a test that a backslash does not
no_backslash : (test : ℕ → Bool) (b : ℕ) → test backslash ≡ false → test b ≡ true
    → (b == backslash) ≡ false
no_backslash test b n e = by (b == backslash) refl
  where
    by : (k : Bool) → (b == backslash) ≡ k → (b == backslash) ≡ false
    by true f =
        absurd (let wrong : test b ≡ false =
        subst (λ (x : ℕ). test x ≡ false) (sym (eqb-true b backslash f)) n in cc)
    by false f = f

byte-back : (t u : List ℕ) (c : ℕ) → (backslash == c) ≡ false → (r : List ℕ)
    → Parts t u (past_byte c r) → Parts t u r
byte-back t u c n [] h = h
byte-back t u c n (b ∷ r) h = by (b == c) refl h
  where
    by : (k : Bool) → (b == c) ≡ k → Parts t u (if k then r else b ∷ r) → Parts t u (b ∷ r)
    by true e h = (b ∷ h.0, on b r h.0 (no_backslash (λ x. x == c) b n e) h.1)
    by false e h = h

space-back : (t u r : List ℕ) → Parts t u (past_one_space r) → Parts t u r
space-back t u [] h = h
space-back t u (b ∷ r) h = by (b == carriage_return) (is_space b) refl refl h
  where
    by : (k m : Bool) → (b == carriage_return) ≡ k → is_space b ≡ m
        → Parts t u (if k then past_byte newline r else (if m then r else b ∷ r))
        → Parts t u (b ∷ r)
    by true m e f h =
        let more = byte-back t u newline refl r h in
        (b ∷ more.0, on b r more.0 (no_backslash (λ x. x == carriage_return) b refl e) more.1)
    by false true e f h = (b ∷ h.0, on b r h.0 (no_backslash is_space b refl f) h.1)
    by false false e f h = h

hex-back : (t u : List ℕ) (n : ℕ) (r : List ℕ) → Parts t u (past_hex n r) → Parts t u r
hex-back t u zero r h = h
hex-back t u (suc n) [] h = h
hex-back t u (suc n) (b ∷ r) h = by (hex-back t u n r) (is_hex_digit b) refl h
  where
    by : (Parts t u (past_hex n r) → Parts t u r) → (k : Bool) → is_hex_digit b ≡ k
        → Parts t u (if k then past_hex n r else b ∷ r) → Parts t u (b ∷ r)
    by more true e h =
        let inner = more h in
        (b ∷ inner.0, on b r inner.0 (no_backslash is_hex_digit b refl e) inner.1)
    by more false e h = h

escape-back : (t u : List ℕ) (c : ℕ) (r : List ℕ) → is_newline c ≡ false
    → Parts t u (past_escape (c ∷ r)) → Parts t u r
unfolding past_escape
escape-back t u c r e h = by (is_hex_digit c) (is_newline c) e h
  where
    by : (k m : Bool) → m ≡ false
        → Parts t u (if k then past_one_space (past_hex 5 r)
        else (if m then past_one_space (c ∷ r) else r))
        → Parts t u r
    by true m e h = hex-back t u 5 r (space-back t u (past_hex 5 r) h)
    by false true e h = absurd (cc)
    by false false e h = h

-- what is next is an escape, whose backslash is not the end of the text
escape-first : (t u : List ℕ) (b : ℕ) (r : List ℕ) → begins_escape (b ∷ r) ≡ true → 0 < length t
    → (0 < length (past_escape r) → Parts t u (past_escape r))
    → length t ≤ length (past_escape r) → Parts t u (b ∷ r)
escape-first t u b r e some more l = by (b == backslash) refl
  where
    inner : (r : List ℕ) → begins_escape (backslash ∷ r) ≡ true
        → Parts t u (past_escape r) → 0 < length (past_escape r) → Parts t u (backslash ∷ r)
    inner [] e h k = absurd (omega (arith, past_escape-within [], k))
    inner (c ∷ r) e h k = let s = escape-back t u c r (no (is_newline c) e) h in
        (backslash ∷ c ∷ s.0, pair c r s.0 s.1)
      where
        no : (m : Bool) → not m ≡ true → m ≡ false
        no true e = absurd (cc)
        no false e = refl

    by : (k : Bool) → (b == backslash) ≡ k → Parts t u (b ∷ r)
    by true f =
        let same = eqb-true b backslash f in
        let left : 0 < length (past_escape r) = omega (arith, some, l) in
        subst (λ (x : ℕ). Parts t u (x ∷ r)) (sym same)
        (inner r (subst (λ (x : ℕ). begins_escape (x ∷ r) ≡ true) same e) (more left) left)
    by false f = absurd (let wrong = rw f at e in cc)

word-step : (u : List ℕ) (b : ℕ) (r : List ℕ) → 0 < length (past_word (b ∷ r))
    → ((r2 : List ℕ) → length r2 ≤ length r → 0 < length (past_word r2)
    → Parts (past_word r2) u r2)
    → Parts (past_word (b ∷ r)) u (b ∷ r)
word-step u b r some more = by (is_name_byte b) (begins_escape (b ∷ r)) refl refl
  where
    by : (k m : Bool) → is_name_byte b ≡ k → begins_escape (b ∷ r) ≡ m
        → Parts (past_word (b ∷ r)) u (b ∷ r)
    by true m e f =
        let same = word-byte b r e in
        let inner = more r (omega arith) (subst (λ (x : List ℕ). 0 < length x) same some) in
        let moved = subst (λ (x : List ℕ). Parts x u r) (sym same) inner in
        (b ∷ moved.0, on b r moved.0 (no_backslash is_name_byte b refl e) moved.1)
    by false true e f =
        let same = word-escape b r f in
        let inner = more (past_escape r) (past_escape-within r)
        (subst (λ (x : List ℕ). 0 < length x) same some) in
        let moved = subst (λ (x : List ℕ). Parts x u (past_escape r)) (sym same) inner in
        escape-first (past_word (b ∷ r)) u b r f some (λ k. moved)
        (parting-longer (past_word (b ∷ r)) u (past_escape r) moved.0 moved.1)
    by false false e f =
        subst (λ (x : List ℕ). Parts x u (b ∷ r))
        (sym (each-rests name_part (b ∷ r) (no_name_part (b ∷ r) f e))) (u, at)

word-parts : (u : List ℕ) (n : ℕ) (r : List ℕ) → length r ≤ n → 0 < length (past_word r)
    → Parts (past_word r) u r
unfolding name_part
word-parts u n [] l some = absurd (omega (arith, some, ap length (each-rests name_part [] refl)))
word-parts u zero (b ∷ r) l some = absurd (omega arith)
word-parts u (suc n) (b ∷ r) l some =
    word-step u b r some (λ r2 less left. word-parts u n r2 (omega (arith, less, l)) left)

-- a word that does not end the text, with other text after it
pub word-parting : (u r : List ℕ) → 0 < length (past_word r)
    → Parting (past_word r) u r (before r (past_word r) ++ u)
word-parting u r some =
    let s = word-parts u (length r) r (omega arith) some in
    subst (Parting (past_word r) u r) (parting-before (past_word r) u r s.0 s.1) s.1
