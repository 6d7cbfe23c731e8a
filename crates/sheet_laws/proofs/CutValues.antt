-- Component values, parts and blocks of a text that is cut before an `@`, read in its front alone.
-- Serves `cutting_law`.
use Rattle.std.proofs.Common.{◌≡◌, ℕ, zero, suc, ◌<◌, ◌≤◌, ◌-◌, ◌==◌, Bool, true, false, List, [], ◌∷◌, ◌++◌, length, length-append, map, take, Some, None, arith, refl, sym, ap, subst, ◌∙◌, if◌then◌else◌}
use Rattle.std.proofs.lemmas.List.{take-append-le}
use Rattle.css_text.specs.AsciiBytes.{at_sign, close_brace, close_bracket, close_parenthesis, open_bracket, open_parenthesis}
use Rattle.css_text.specs.Reading.{before, each, last_or}
use Rattle.css_text.specs.Bytes.{past_byte, starts}
use Rattle.css_text.proofs.reading.EachLemmas.{Takes, each-stops}
use Rattle.css_text.proofs.reading.TakesLemmas.{length-past_byte}
use Rattle.css_syntax.specs.declared.parts.Stops.{Stops}
use Rattle.css_syntax.specs.declared.quality.Quality.{Quality}
use Rattle.css_syntax.specs.declared.quality.Quality.TheVariants.{TooDeep}
use Rattle.css_syntax.specs.Qualities.{first_flaw, flaw_of_all}
use Rattle.css_syntax.specs.Tokens.{is_closer, past_gap, token}
use Rattle.css_syntax.specs.ComponentValues.{block_of, component_value, deepest, end_quality, is_opener, mirror, past_deep, past_open, value_by, value_inside}
use Rattle.css_syntax.specs.Parts.{Stated, ends_at, part, parts, stops_at, with_gap}
use Rattle.css_syntax.specs.Statements.{block, block_closed, block_ends}
use Rattle.css_syntax.proofs.Shorter.{token-takes}
use Rattle.css_syntax.proofs.OpenBlocks.{inside-takes, open-none, open-within, value-within}
use Rattle.css_syntax.proofs.PartLemmas.{part-takes, parts-within, past_gap-within}
use Rattle.sheet_laws.proofs.CutTokens.{Kept, kept-if, kept-past, Same, same-if, same-then, Follows, follows-if, each_with, each-same, starts-same, past_byte-on, gap-kept, token-same}

module _ (t : List ℕ) where
  -- a reader of a value from its first byte on
  abbrev pub ValueSame : (List ℕ → Quality × List ℕ) → Type 0
  ValueSame read = (b : ℕ) (s : List ℕ) → Same t (read (b ∷ (s ++ at_sign ∷ t))) (read (b ∷ s))

  abbrev same_quality : Quality → Quality
  same_quality q = q

  each_with-same : (qualities : List Quality) → each_with t same_quality qualities ≡ qualities
  each_with-same [] = refl
  each_with-same (q ∷ qualities) = ap (λ (more : List Quality). q ∷ more) (each_with-same qualities)

  -- ---- blocks of values

  value_inside-follows : (read : List ℕ → Quality × List ℕ)
      → ((b : ℕ) (text : List ℕ) → length (read (b ∷ text)).1 ≤ length text) → ValueSame read → (closer : ℕ)
      → (s : List ℕ)
      → Follows t same_quality (value_inside read closer (s ++ at_sign ∷ t)) (value_inside read closer s)
  value_inside-follows read takes same closer [] = by (at_sign == closer)
    where
      by : (k : Bool) → Follows t same_quality (if k then None else Some (read (at_sign ∷ t))) None
      by true = tt
      by false = takes at_sign t
  value_inside-follows read takes same closer (b ∷ s) =
      follows-if t same_quality (b == closer) (b == closer) refl None (Some (read (b ∷ (s ++ at_sign ∷ t)))) None
      (Some (read (b ∷ s))) tt (same b s)

  -- a block does not end at `@`
  inside-stops : (read : List ℕ → Quality × List ℕ) (closer : ℕ) → (at_sign == closer) ≡ false
      → value_inside read closer (at_sign ∷ t) ≡ None → ⊥
  inside-stops read closer e h = let some = rw e at h in cc

  end-same : (read : List ℕ → Quality × List ℕ) (closer : ℕ) → (at_sign == closer) ≡ false
      → (x y : List ℕ) → x ≡ y ++ at_sign ∷ t → value_inside read closer x ≡ None
      → (end_quality x ≡ end_quality y) × (past_byte closer x ≡ past_byte closer y ++ at_sign ∷ t)
  end-same read closer e x [] f stop =
      absurd (inside-stops read closer e (subst (λ (z : List ℕ). value_inside read closer z ≡ None) f stop))
  end-same read closer e x (b ∷ y) f stop =
      (ap end_quality f, ap (past_byte closer) f ∙ past_byte-on t closer e (b ∷ y))

  block_of-same : (read : List ℕ → Quality × List ℕ) (closer : ℕ) → Takes (value_inside read closer)
      → ((b : ℕ) (text : List ℕ) → length (read (b ∷ text)).1 ≤ length text) → ValueSame read
      → (at_sign == closer) ≡ false
      → (s : List ℕ) → Same t (block_of read closer (s ++ at_sign ∷ t)) (block_of read closer s)
  unfolding block_of
  block_of-same read closer takes consumes same e s l =
      let inside = each (value_inside read closer) (s ++ at_sign ∷ t) in
      let other = each (value_inside read closer) s in
      let values = each-same t same_quality (value_inside read closer) takes
      (value_inside-follows read consumes same closer) s (omega (arith, l, length-past_byte closer inside.1)) in
      let qualities : inside.0 ≡ other.0 = values.0 ∙ each_with-same other.0 in
      let ends = end-same read closer e inside.1 other.1 values.1
      (each-stops (value_inside read closer) takes (s ++ at_sign ∷ t)) in (
        ap (λ (q : List Quality). first_flaw (flaw_of_all q) (end_quality inside.1)) qualities
            ∙ ap (first_flaw (flaw_of_all other.0)) ends.0,
        ends.1,
      )

  -- what is nested too deep
  open-kept : (n m depth : ℕ) (s : List ℕ) → length (s ++ at_sign ∷ t) ≤ n → length s ≤ m
      → Kept t (past_open n depth (s ++ at_sign ∷ t)) (past_open m depth s)
  unfolding past_open
  open-kept zero m depth s h k = absurd (omega (arith, h, length-append s (at_sign ∷ t)))
  open-kept (suc n) m zero s h k = λ l. sym (ap (λ (z : List ℕ). z ++ at_sign ∷ t) (open-none m s))
  open-kept (suc n) m (suc depth) [] h k =
      kept-past t (past_open n (suc depth) (token (at_sign ∷ t)).1) (past_open m (suc depth) [])
      (omega (arith, open-within n (suc depth) (token (at_sign ∷ t)).1, token-takes at_sign t))
  open-kept (suc n) zero (suc depth) (b ∷ s) h k = absurd (omega (arith, k))
  open-kept (suc n) (suc m) (suc depth) (b ∷ s) h k =
      kept-if t (is_opener b) (is_opener b) refl _ _ _ _
      (open-kept n m (suc (suc depth)) s (omega (arith, h)) (omega (arith, k)))
      (kept-if t (is_closer b) (is_closer b) refl _ _ _ _
      (open-kept n m depth s (omega (arith, h)) (omega (arith, k)))
      (λ l.
      let e = (token-same t b s
      (omega (arith, l, open-within n (suc depth) (token (b ∷ (s ++ at_sign ∷ t))).1))).1 in
      ap (past_open n (suc depth)) e
      ∙ open-kept n m (suc depth) (token (b ∷ s)).1
      (omega (arith, h, ap length e, token-takes b (s ++ at_sign ∷ t))) (omega (arith, k, token-takes b s))
      (subst (λ (z : List ℕ). length t < length (past_open n (suc depth) z)) e l)))

  -- ---- values

  mirror-no_at : (b : ℕ) → (at_sign == mirror b) ≡ false
  mirror-no_at b = by (b == open_parenthesis) (b == open_bracket)
    where
      by : (x y : Bool) → (at_sign == (if x then close_parenthesis
          else (if y then close_bracket else close_brace))) ≡ false
      by true y = refl
      by false true = refl
      by false false = refl

  value_by-same : (block : ℕ → List ℕ → Quality × List ℕ)
      → ((closer : ℕ) → (at_sign == closer) ≡ false → (s : List ℕ)
      → Same t (block closer (s ++ at_sign ∷ t)) (block closer s))
      → ValueSame (value_by block)
  value_by-same block same b s =
      same-if t (is_opener b) (is_opener b) refl (block (mirror b) (s ++ at_sign ∷ t))
      (token (b ∷ (s ++ at_sign ∷ t))) (block (mirror b) s) (token (b ∷ s))
      (same (mirror b) (mirror-no_at b) s) (token-same t b s)

  value-same : (n : ℕ) → ValueSame (component_value n)
  unfolding component_value
  value-same zero =
      value_by-same (λ closer rest. (TooDeep, past_deep rest))
      (λ closer e s l. (refl, open-kept (length (s ++ at_sign ∷ t)) (length s) 1 s (omega arith) (omega arith) l))
  value-same (suc n) =
      value_by-same (block_of (component_value n))
      (λ closer e s. block_of-same (component_value n) closer (inside-takes n closer) (value-within n)
      (value-same n) e s)

  -- ---- parts

  -- a value of the front, with what is left of the whole after it
  abbrev whole_value : Quality × List ℕ → Quality × List ℕ
  whole_value x = (x.0, x.1 ++ at_sign ∷ t)

  pair-is : {A : Type 0} (x : A × List ℕ) (a : A) (r : List ℕ) → x.0 ≡ a → x.1 ≡ r → x ≡ (a, r)
  pair-is (p, q) a r e f = cc

  part-same : (stops : Stops) (s : List ℕ) → Follows t whole_value (part stops (s ++ at_sign ∷ t)) (part stops s)
  part-same stops [] = by (ends_at stops (at_sign ∷ t))
    where
      v : Quality × List ℕ
      v = component_value deepest (at_sign ∷ t)

      by : (k : Bool) → Follows t whole_value (if k then None else Some (with_gap v)) None
      by true = tt
      by false = omega (arith, past_gap-within v.1, value-within deepest at_sign t)
  part-same stops (b ∷ s) =
      follows-if t whole_value (stops_at stops b) (stops_at stops b) refl None (Some (with_gap v)) None
      (Some (with_gap y)) tt
      (λ l.
      let e = value-same deepest b s (omega (arith, l, past_gap-within v.1)) in (
        pair-is v y.0 (y.1 ++ at_sign ∷ t) e.0 e.1,
        ap past_gap e.1
            ∙ gap-kept t y.1 (subst (λ (z : List ℕ). length t < length (past_gap z)) e.1 l),
      ))
    where
      v : Quality × List ℕ
      v = component_value deepest (b ∷ (s ++ at_sign ∷ t))

      y : Quality × List ℕ
      y = component_value deepest (b ∷ s)

  last-with : (s : List ℕ) (xs : List (Quality × List ℕ))
      → last_or (s ++ at_sign ∷ t) (map (λ one. one.1) (each_with t whole_value xs))
      ≡ last_or s (map (λ one. one.1) xs) ++ at_sign ∷ t
  last-with s [] = refl
  last-with s (x ∷ xs) = last-with x.1 xs

  flaws-with : (xs : List (Quality × List ℕ))
      → flaw_of_all (map (λ one. one.0) (each_with t whole_value xs)) ≡ flaw_of_all (map (λ one. one.0) xs)
  flaws-with [] = refl
  flaws-with (x ∷ xs) = ap (first_flaw x.0) (flaws-with xs)

  pub before-same : (s r : List ℕ) → before (s ++ at_sign ∷ t) (r ++ at_sign ∷ t) ≡ before s r
  before-same s r =
      let n : length (s ++ at_sign ∷ t) - length (r ++ at_sign ∷ t) ≡ length s - length r =
      omega (arith, length-append s (at_sign ∷ t), length-append r (at_sign ∷ t)) in
      ap (λ (k : ℕ). take k (s ++ at_sign ∷ t)) n
      ∙ take-append-le (length s - length r) s (at_sign ∷ t) (omega arith)

  abbrev stated_by : List ℕ → List (Quality × List ℕ) → Stated
  stated_by text values = record {
    text = before text (last_or text (map (λ one. one.1) values));
    quality = flaw_of_all (map (λ one. one.0) values);
  }

  pub parts-same : (stops : Stops) (s : List ℕ) → Same t (parts stops (s ++ at_sign ∷ t)) (parts stops s)
  unfolding parts
  parts-same stops s l =
      let other = each (part stops) s in
      let both = each-same t whole_value (part stops) (part-takes stops) (part-same stops) s l in
      let texts : before (s ++ at_sign ∷ t)
      (last_or (s ++ at_sign ∷ t) (map (λ one. one.1) (each_with t whole_value other.0)))
      ≡ before s (last_or s (map (λ one. one.1) other.0)) =
      ap (before (s ++ at_sign ∷ t)) (last-with s other.0)
      ∙ before-same s (last_or s (map (λ one. one.1) other.0)) in
      let flaws = flaws-with other.0 in
      let stated : stated_by (s ++ at_sign ∷ t) (each_with t whole_value other.0) ≡ stated_by s other.0 =
      cc (texts, flaws) in
      (ap (stated_by (s ++ at_sign ∷ t)) both.0 ∙ stated, both.1)

  -- parts after a blank
  pub gap_parts-same : (stops : Stops) (x y : List ℕ) → Kept t x y
      → Same t (parts stops (past_gap x)) (parts stops (past_gap y))
  gap_parts-same stops x y h =
      same-then t (parts stops) (parts-within stops) (parts-same stops) (past_gap x) (past_gap y)
      (λ l. let e = h (omega (arith, l, past_gap-within x)) in
      ap past_gap e ∙ gap-kept t y (subst (λ (z : List ℕ). length t < length (past_gap z)) e l))

  -- ---- blocks

  closed-same : (x y : Stated × List ℕ) → Same t x y → Same t (block_closed x) (block_closed y)
  closed-same x y h l =
      let both = h (omega (arith, l, length-past_byte close_brace x.1)) in
      let text : x.0.text ≡ y.0.text = ap (λ (z : Stated). z.text) both.0 in
      let closed : starts close_brace x.1 ≡ starts close_brace y.1 =
      ap (starts close_brace) both.1 ∙ starts-same t close_brace refl y.1 in
      (cc (text, closed), ap (past_byte close_brace) both.1 ∙ past_byte-on t close_brace refl y.1)

  pub block-same : (s : List ℕ) → Same t (block (s ++ at_sign ∷ t)) (block s)
  unfolding block
  block-same s =
      closed-same (parts block_ends (past_gap (s ++ at_sign ∷ t))) (parts block_ends (past_gap s))
      (gap_parts-same block_ends (s ++ at_sign ∷ t) s (λ l. refl))
