-- The position of an offset, from that of an earlier one.
-- Serves the positions of simplecss that are counted from one offset to the next.
use Rattle.std.proofs.Common.{◌≡◌, ℕ, ◌+◌, ◌-◌, ◌<◌, List, [], ◌∷◌, ◌++◌, Bool, true, false, cond, not, ◌==◌, length, take, drop, reverse, min, refl, sym, ap, ◌∙◌, subst, arith, take-add, inl, inr, ◌⊎◌, IsUtf8, eqb, eqb-true, eq-eqb}
use Rattle.std.specs.Prelude.{chars, count_by}
use Rattle.std.specs.List.{after_last, prefix_len, suffix_len}
use Rattle.std.proofs.lemmas.List.{reverse-append, length-reverse, length-append, drop-append-le}
use Rattle.std.proofs.lemmas.List.Folds.{prefix_len-append}
use Rattle.std.proofs.Math.Seq.{drop-append-add}
use Rattle.std.proofs.lemmas.List.Sums.{sum_by-append, sum_by-cons}
use Rattle.std.proofs.lemmas.List.Sorted.{sum_by-IsPermutation, IsPermutation-reverse}
use Rattle.std.proofs.lemmas.Str.{chars-append}
use Rattle.css_text.specs.declared.text_pos.TextPos.{TextPos}
use Rattle.css_text.specs.AsciiBytes.{newline}
use Rattle.css_text.specs.Reading.{Ends}
use Rattle.css_text.specs.Positions.{greatest, in_whole, position}
use Rattle.css_text.proofs.reading.EndsLemmas.{ends-same, ends-cons}
use Rattle.css_text.proofs.bytes.Utf8Lemmas.{utf8-after}

abbrev newlines : List ℕ → ℕ
newlines xs = count_by (λ b. b == newline) xs

abbrev line : List ℕ → List ℕ
line xs = after_last (λ b. b == newline) xs

abbrev front : List ℕ → ℕ
front xs = prefix_len (λ b. not (b == newline)) xs

-- a text has no newline, or it has one
abbrev Split : List ℕ → Type 0
Split xs =
    ((front xs ≡ length xs) × (newlines xs ≡ 0)) ⊎ ((front xs < length xs) × (0 < newlines xs))

split : (xs : List ℕ) → Split xs
split [] = inl (refl, refl)
split (x ∷ xs) = by (x == newline) refl (split xs)
  where
    by : (k : Bool) → (x == newline) ≡ k → Split xs → Split (x ∷ xs)
    by true e h =
        inr
        (rw e (omega arith), rw (sum_by-cons (λ b. cond (b == newline) 1 0) x xs, e) (omega arith))
    by false e (inl h) =
        inl (
          rw e (omega (arith, h.0)),
          rw (sum_by-cons (λ b. cond (b == newline) 1 0) x xs, e)
              (omega (arith, h.1)),
        )
    by false e (inr h) =
        inr (
          rw e (omega (arith, h.0)),
          rw (sum_by-cons (λ b. cond (b == newline) 1 0) x xs, e)
              (omega (arith, h.1)),
        )

newlines-reverse : (xs : List ℕ) → newlines (reverse xs) ≡ newlines xs
newlines-reverse xs =
    sum_by-IsPermutation (λ b. cond (b == newline) 1 0) xs (reverse xs) (IsPermutation-reverse xs)

pub newlines-append : (xs ys : List ℕ) → newlines (xs ++ ys) ≡ newlines xs + newlines ys
newlines-append xs ys = sum_by-append (λ b. cond (b == newline) 1 0) xs ys

none-front : (xs : List ℕ) → newlines xs ≡ 0 → front (reverse xs) ≡ length (reverse xs)
none-front xs h = by (split (reverse xs))
  where
    by : Split (reverse xs) → front (reverse xs) ≡ length (reverse xs)
    by (inl s) = s.0
    by (inr s) = absurd (omega (arith, s.1, newlines-reverse xs, h))

some-front : (xs : List ℕ) → 0 < newlines xs → front (reverse xs) < length (reverse xs)
some-front xs h = by (split (reverse xs))
  where
    by : Split (reverse xs) → front (reverse xs) < length (reverse xs)
    by (inl s) = absurd (omega (arith, s.1, newlines-reverse xs, h))
    by (inr s) = s.0

-- the end of two texts that has no newline
suffix-append : (xs ys : List ℕ)
    → suffix_len (λ b. not (b == newline)) (xs ++ ys)
    ≡ cond (eqb (front (reverse ys)) (length (reverse ys)))
    (length (reverse ys) + front (reverse xs)) (front (reverse ys))
suffix-append xs ys =
    ap front (reverse-append xs ys)
    ∙ prefix_len-append (λ b. not (b == newline)) (reverse ys) (reverse xs)

eqb-less : (a b : ℕ) → a < b → eqb a b ≡ false
eqb-less a b h = by (eqb a b) refl
  where
    by : (k : Bool) → eqb a b ≡ k → k ≡ false
    by true e = absurd (omega (arith, h, eqb-true a b e))
    by false e = refl

-- the last line of two texts

pub line-append_none : (xs ys : List ℕ) → newlines ys ≡ 0 → line (xs ++ ys) ≡ line xs ++ ys
line-append_none xs ys h =
    let all : eqb (front (reverse ys)) (length (reverse ys)) ≡ true =
    rw (none-front ys h) (eq-eqb (length (reverse ys)) (length (reverse ys)) refl) in
    let len : suffix_len (λ b. not (b == newline)) (xs ++ ys) ≡ length ys + front (reverse xs) =
    suffix-append xs ys ∙ rw (all, length-reverse ys) refl in
    let from : length (xs ++ ys) - (length ys + front (reverse xs)) ≡ length xs - front
    (reverse xs) = rw (length-append xs ys) (omega arith) in
    ap (λ n. drop (length (xs ++ ys) - n) (xs ++ ys)) len
    ∙ ap (λ n. drop n (xs ++ ys)) from
    ∙ drop-append-le (length xs - front (reverse xs)) xs ys (omega arith)

pub line-append_some : (xs ys : List ℕ) → 0 < newlines ys → line (xs ++ ys) ≡ line ys
line-append_some xs ys h =
    let less : front (reverse ys) < length (reverse ys) = some-front ys h in
    let not_all : eqb (front (reverse ys)) (length (reverse ys)) ≡ false =
    eqb-less (front (reverse ys)) (length (reverse ys)) less in
    let len : suffix_len (λ b. not (b == newline)) (xs ++ ys) ≡ front (reverse ys) =
    suffix-append xs ys ∙ rw not_all refl in
    let same : length (reverse ys) ≡ length ys = length-reverse ys in
    let from : length (xs ++ ys) - front (reverse ys) ≡ length xs +
    (length ys - front (reverse ys)) = rw (length-append xs ys) (omega (arith, less, same)) in
    ap (λ n. drop (length (xs ++ ys) - n) (xs ++ ys)) len
    ∙ ap (λ n. drop n (xs ++ ys)) from
    ∙ drop-append-add xs ys (length ys - front (reverse ys))

-- the last line of a text is the whole text, or follows a newline

line-none : (xs : List ℕ) → newlines xs ≡ 0 → line xs ≡ xs
line-none xs h = line-append_none [] xs h

line-some : (xs : List ℕ) → 0 < newlines xs → Ends xs (newline ∷ line xs)
line-some [] h = absurd (omega (arith, h))
line-some (x ∷ xs) h = by (split xs) (λ more. line-some xs more)
  where
    by : Split xs → (0 < newlines xs → Ends xs (newline ∷ line xs))
        → Ends (x ∷ xs) (newline ∷ line (x ∷ xs))
    by (inl s) more = first (x == newline) refl
      where
        first : (k : Bool) → (x == newline) ≡ k → Ends (x ∷ xs) (newline ∷ line (x ∷ xs))
        first true e =
            let ten : x ≡ newline = eqb-true x newline e in
            let one : line (x ∷ xs) ≡ xs = line-append_none (x ∷ []) xs s.1 ∙ rw ten refl in
            rw (one, ten) (ends-same (newline ∷ xs))
        first false e =
            let same : newlines (x ∷ xs) ≡ newlines xs =
            rw (sum_by-cons (λ b. cond (b == newline) 1 0) x xs, e) (omega arith) in
            absurd (omega (arith, h, s.1, same))
    by (inr s) more =
        rw (line-append_some (x ∷ []) xs s.1) (ends-cons x xs (newline ∷ line xs) (more s.1))

line-utf8 : (xs : List ℕ) → IsUtf8 xs → IsUtf8 (line xs)
line-utf8 xs i = by (split xs)
  where
    by : Split xs → IsUtf8 (line xs)
    by (inl s) = subst IsUtf8 (sym (line-none xs s.1)) i
    by (inr s) = utf8-after xs (line xs) newline (omega arith) i (line-some xs s.1)

-- ---- positions

-- the counts stop at the greatest
capped : (a b : ℕ) → min greatest (min greatest (1 + a) + (min greatest (1 + b) - 1)) ≡ min greatest
    (1 + (a + b))
capped a b = omega arith

capped_zero : (a : ℕ) → min greatest (min greatest (1 + a) + (1 - 1)) ≡ min greatest (1 + a)
capped_zero a = omega arith

more_rows : (m : ℕ) → 0 < m → (min greatest (1 + m) == 1) ≡ false
more_rows m h = by (min greatest (1 + m) == 1) refl
  where
    by : (k : Bool) → (min greatest (1 + m) == 1) ≡ k → k ≡ false
    by true e = absurd (omega (arith, h, eqb-true (min greatest (1 + m)) 1 e))
    by false e = refl

pos_eq : (a b c d : ℕ) → a ≡ b → c ≡ d
    → ◌≡◌ {A = TextPos} (record { row = a; col = c }) (record { row = b; col = d })
pos_eq a b c d e f = rw (e, f) refl

-- the position after a text
abbrev after : List ℕ → TextPos
after xs = record {
  row = min greatest (1 + newlines xs);
  col = min greatest (1 + length (chars (line xs)));
}

whole_none : (r c n : ℕ)
    → in_whole (record { row = min greatest (1 + r); col = min greatest (1 + c) })
    (record { row = 1; col = min greatest (1 + n) }) ≡ record
    { row = min greatest (1 + r); col = min greatest (1 + (c + n)) }
whole_none r c n = pos_eq _ _ _ _ (capped_zero r) (capped c n)

whole_some : (r c m n : ℕ) → 0 < m
    → in_whole (record { row = min greatest (1 + r); col = min greatest (1 + c) })
    (record { row = min greatest (1 + m); col = min greatest (1 + n) }) ≡ record
    { row = min greatest (1 + (r + m)); col = min greatest (1 + n) }
whole_some r c m n h = rw (more_rows m h) (pos_eq _ _ _ _ (capped r m) refl)

-- the position after two texts, from that after the first one
pub position-append : (xs ys : List ℕ) → IsUtf8 xs
    → in_whole (after xs) (after ys) ≡ after (xs ++ ys)
position-append xs ys i = by (split ys)
  where
    by : Split ys → in_whole (after xs) (after ys) ≡ after (xs ++ ys)
    by (inl s) =
        let one : line (xs ++ ys) ≡ line xs ++ ys = line-append_none xs ys s.1 in
        let same : line ys ≡ ys = line-none ys s.1 in
        let cs : length (chars (line xs ++ ys)) ≡ length (chars (line xs)) + length (chars ys) =
        ap length (chars-append (line xs) ys (line-utf8 xs i))
        ∙ length-append (chars (line xs)) (chars ys) in
        let rows : newlines (xs ++ ys) ≡ newlines xs + 0 =
        newlines-append xs ys ∙ ap (λ n. newlines xs + n) s.1 in
        let none : newlines xs + 0 ≡ newlines xs = omega arith in
        rw (one, same, cs, rows, none, s.1)
        (whole_none (newlines xs) (length (chars (line xs))) (length (chars ys)))
    by (inr s) =
        rw (line-append_some xs ys s.1, newlines-append xs ys)
        (whole_some (newlines xs) (length (chars (line xs))) (newlines ys)
        (length (chars (line ys))) s.1)

-- the same in a text: of what is left at an earlier offset
pub position-add : (text : List ℕ) (p n : ℕ) → IsUtf8 (take p text)
    → in_whole (position text p) (position (drop p text) n) ≡ position text (p + n)
unfolding position
position-add text p n i =
    position-append (take p text) (take n (drop p text)) i ∙ ap after (sym (take-add p n text))
