-- Component values one after another, up to where two texts part.
-- Serves `laws::printed_declarations_read_back`.
use Rattle.std.proofs.Common.{◌≡◌, ℕ, zero, suc, ◌<◌, ◌≤◌, ◌==◌, ◌&&◌, ◌||◌, eqb-true, Bool, true, false, List, [], ◌∷◌, length, map, Option, Some, None, arith, refl, sym, ap, subst, ◌∙◌, if◌then◌else◌}
use Rattle.css_text.specs.AsciiBytes.{single_quote, double_quote}
use Rattle.css_text.specs.Reading.{and_then, up_to, each, followed_by, last_or}
use Rattle.css_text.specs.Bytes.{past, starts_by}
use Rattle.css_text.specs.Characters.{is_space}
use Rattle.css_text.specs.Strings.{is_quote}
use Rattle.css_text.proofs.reading.EachLemmas.{each-none, each-some, each-stops}
use Rattle.css_syntax.specs.declared.quality.Quality.{Quality}
use Rattle.css_syntax.specs.declared.quality.Quality.TheVariants.{Whole}
use Rattle.css_syntax.specs.declared.parts.Stops.{Stops}
use Rattle.css_syntax.specs.Qualities.{flaw_of_all}
use Rattle.css_syntax.specs.Tokens.{gap_part, past_gap}
use Rattle.css_syntax.specs.ComponentValues.{deepest, component_value}
use Rattle.css_syntax.specs.Parts.{ends_at, with_gap, part}
use Rattle.css_syntax.proofs.Shorter.{each-rests, gap_part-takes}
use Rattle.css_syntax.proofs.RunSteps.{run-gap}
use Rattle.css_syntax.proofs.PartLemmas.{past_gap-within, Follows, follows-part, part-follows, part-takes}
use Rattle.css_syntax.proofs.Parting.{Parting, parting-end}
use Rattle.css_syntax.proofs.Parting.Parting.{at, on, pair}
use Rattle.css_syntax.proofs.PartingTokens.{gap-kept}
use Rattle.css_syntax.proofs.PartingValues.{Seam, value-kept, first_flaw-whole}

-- where the parts end, and their flaws
abbrev pub ends_of : Stops → List ℕ → List (List ℕ)
ends_of stops text = map (λ one. one.1) (each (part stops) text).0

abbrev pub flaws_of : Stops → List ℕ → Quality
flaws_of stops text = flaw_of_all (map (λ one. one.0) (each (part stops) text).0)

abbrev value_at : List ℕ → Quality × List ℕ
value_at text = component_value deepest text

-- what `each` reads of parts
abbrev Read : Type 0
Read = List (Quality × List ℕ) × List ℕ

-- one part and then the others, if the parts do not end here
parts-some : (stops : Stops) (text : List ℕ) → ends_at stops text ≡ false
    → each (part stops) text
    ≡ followed_by (value_at text) (each (part stops) (past_gap (value_at text).1))
parts-some stops text e =
    let v = value_at text in
    let found : part stops text ≡ Some (with_gap v) = rw e refl in
    each-some (part stops) (part-takes stops) text (past_gap v.1) v found

parts-none : (stops : Stops) (text : List ℕ) → ends_at stops text ≡ true
    → each (part stops) text ≡ ([], text)
parts-none stops text e =
    let none : part stops text ≡ None = rw e refl in each-none (part stops) text none

value-less : (stops : Stops) (text : List ℕ) → ends_at stops text ≡ false
    → length (value_at text).1 < length text
value-less stops text e =
    let found : part stops text ≡ Some (with_gap (value_at text)) = rw e refl in
    (part-follows stops text (with_gap (value_at text)) found).0

-- the last end is after the first
last-within : (stops : Stops) (n : ℕ) (text end : List ℕ) → length text ≤ length end
    → length (last_or end (map (λ one. one.1) (up_to n (part stops) text).0)) ≤ length end
last-within stops zero text end h = omega arith
last-within stops (suc n) text end h =
    by (λ t e l. last-within stops n t e l) (part stops text) (follows-part stops text)
  where
    by : ((t e : List ℕ) → length t ≤ length e
        → length (last_or e (map (λ one. one.1) (up_to n (part stops) t).0)) ≤ length e)
        → (o : Option ((Quality × List ℕ) × List ℕ)) → Follows text o
        → length (last_or end (map (λ one. one.1) (and_then text o (up_to n (part stops))).0))
        ≤ length end
    by more None p = omega arith
    by more (Some x) p = omega (arith, more x.1 x.0.1 p.1, p.0)

ends-within : (stops : Stops) (text end : List ℕ) → length text ≤ length end
    → length (last_or end (ends_of stops text)) ≤ length end
unfolding each
ends-within stops text end h = last-within stops (length text) text end h

last-other : (stops : Stops) (a b text : List ℕ) → ends_at stops text ≡ false
    → last_or a (ends_of stops text) ≡ last_or b (ends_of stops text)
last-other stops a b text e =
    let all = parts-some stops text e in
    ap (λ (p : Read). last_or a (map (λ one. one.1) p.0)) all
    ∙ sym (ap (λ (p : Read). last_or b (map (λ one. one.1) p.0)) all)

-- ---- what is left after parts

pub gap-again : (text : List ℕ) → past_gap (past_gap text) ≡ past_gap text
gap-again text = each-rests gap_part (past_gap text) (each-stops gap_part gap_part-takes text)

-- what is left is what follows the last part and its blank
abbrev GapLeft : List ℕ → Read → Type 0
GapLeft r p = p.1 ≡ past_gap (last_or r (map (λ one. one.1) p.0))

ends-step : (stops : Stops) (r : List ℕ) → past_gap r ≡ r
    → ((r2 : List ℕ) → length r2 < length r → past_gap r2 ≡ r2
    → (each (part stops) r2).1 ≡ past_gap (last_or r2 (ends_of stops r2)))
    → (each (part stops) r).1 ≡ past_gap (last_or r (ends_of stops r))
ends-step stops r g more = by (ends_at stops r) refl
  where
    chosen : (r1 : List ℕ) (xs : List (List ℕ)) (left : List ℕ)
        → left ≡ past_gap (last_or (past_gap r1) xs) → left ≡ past_gap (last_or r1 xs)
    chosen r1 [] left e = e ∙ gap-again r1
    chosen r1 (x ∷ xs) left e = e

    by : (k : Bool) → ends_at stops r ≡ k → GapLeft r (each (part stops) r)
    by true e = subst (GapLeft r) (sym (parts-none stops r e)) (sym g)
    by false e =
        let v = value_at r in
        let less : length (past_gap v.1) < length r =
        omega (arith, value-less stops r e, past_gap-within v.1) in
        subst (GapLeft r) (sym (parts-some stops r e))
        (chosen v.1 (ends_of stops (past_gap v.1)) (each (part stops) (past_gap v.1)).1
        (more (past_gap v.1) less (gap-again v.1)))

ends-gap : (stops : Stops) (m : ℕ) (r : List ℕ) → length r ≤ m → past_gap r ≡ r
    → (each (part stops) r).1 ≡ past_gap (last_or r (ends_of stops r))
ends-gap stops zero r l g =
    ends-step stops r g (λ r2 less again. absurd (omega (arith, less, l)))
ends-gap stops (suc m) r l g =
    ends-step stops r g (λ r2 less again. ends-gap stops m r2 (omega (arith, less, l)) again)

ends-end : (stops : Stops) (text : List ℕ) → part stops text ≡ None → ends_at stops text ≡ true
ends-end stops text e = by (ends_at stops text) e
  where
    by : (k : Bool) → (if k then None else Some (with_gap (value_at text))) ≡ None → k ≡ true
    by true e = refl
    by false e = absurd (cc)

-- a quote is no blank and ends no parts
quote-stays : (stops : Stops) (b : ℕ) (text : List ℕ) → is_quote b ≡ true
    → (past_gap (b ∷ text) ≡ b ∷ text) × (ends_at stops (b ∷ text) ≡ false)
unfolding gap_part
quote-stays stops b text e = by (b == single_quote) (b == double_quote) refl refl e
  where
    never : (k : Bool) → (k && false) ≡ false
    never true = refl
    never false = refl

    by : (k m : Bool) → (b == single_quote) ≡ k → (b == double_quote) ≡ m → (k || m) ≡ true
        → (past_gap (b ∷ text) ≡ b ∷ text) × (ends_at stops (b ∷ text) ≡ false)
    by true m f g e =
        subst (λ (c : ℕ). (past_gap (c ∷ text) ≡ c ∷ text) × (ends_at stops (c ∷ text) ≡ false))
        (sym (eqb-true b single_quote f))
        (each-rests gap_part (single_quote ∷ text) refl, never stops.in_value)
    by false true f g e =
        subst (λ (c : ℕ). (past_gap (c ∷ text) ≡ c ∷ text) × (ends_at stops (c ∷ text) ≡ false))
        (sym (eqb-true b double_quote g))
        (each-rests gap_part (double_quote ∷ text) refl, never stops.in_value)
    by false false f g e = absurd (cc)

-- no quote follows the last part, after blanks
pub last-no_quote : (stops : Stops) (r : List ℕ) → past_gap r ≡ r
    → starts_by is_quote (past is_space (last_or r (ends_of stops r))) ≡ false
last-no_quote stops r g =
    let t = last_or r (ends_of stops r) in
    let left = ends-gap stops (length r) r (omega arith) g in
    let ended = ends-end stops (each (part stops) r).1
    (each-stops (part stops) (part-takes stops) r) in
    let ends : ends_at stops (past_gap t) ≡ true =
    subst (λ (x : List ℕ). ends_at stops x ≡ true) left ended in
    by (past is_space t) (run-gap t) ends
  where
    by : (x : List ℕ) → past_gap x ≡ past_gap (last_or r (ends_of stops r))
        → ends_at stops (past_gap (last_or r (ends_of stops r))) ≡ true
        → starts_by is_quote x ≡ false
    by [] e ends = refl
    by (b ∷ x) e ends = inner (is_quote b) refl
      where
        inner : (k : Bool) → is_quote b ≡ k → is_quote b ≡ false
        inner true f =
            let stays = quote-stays stops b x f in
            let here : ends_at stops (b ∷ x) ≡ true =
            subst (λ (y : List ℕ). ends_at stops y ≡ true) (sym e ∙ stays.0) ends in
            absurd (let wrong = stays.1 in cc)
        inner false f = f

-- ---- two texts that part after the last part

-- what reading the second text returns
pub record PartsKept (stops : Stops) (u s : List ℕ) : Type 0 where
  pub whole : flaws_of stops s ≡ Whole
  pub last : last_or s (ends_of stops s) ≡ u
  pub left : (each (part stops) s).1 ≡ u

kept-end : (stops : Stops) (u : List ℕ) → ends_at stops u ≡ true → PartsKept stops u u
kept-end stops u e =
    let none = parts-none stops u e in
    record {
      whole = ap (λ (p : Read). flaw_of_all (map (λ one. one.0) p.0)) none;
      last = ap (λ (p : Read). last_or u (map (λ one. one.1) p.0)) none;
      left = ap (λ (p : Read). p.1) none;
    }

ends-same : (stops : Stops) (t u r s : List ℕ) → Parting t u r s → length t < length r
    → ends_at stops r ≡ ends_at stops s
ends-same stops t u r s at k = absurd (omega arith)
ends-same stops t u r s (on b r1 s1 e h) k = refl
ends-same stops t u r s (pair c r1 s1 h) k = refl

-- a part, and then what is read after it and its blank
kept-then : (stops : Stops) (u s : List ℕ) → ends_at stops s ≡ false → (value_at s).0 ≡ Whole
    → PartsKept stops u (past_gap (value_at s).1)
    → last_or (value_at s).1 (ends_of stops (past_gap (value_at s).1)) ≡ u → PartsKept stops u s
kept-then stops u s e w more last =
    let all = parts-some stops s e in
    record {
      whole = ap (λ (p : Read). flaw_of_all (map (λ one. one.0) p.0)) all
          ∙ rw (w, more.whole) refl;
      last = ap (λ (p : Read). last_or s (map (λ one. one.1) p.0)) all
          ∙ last;
      left = ap (λ (p : Read). p.1) all ∙ more.left;
    }

parts-step : (stops : Stops) (t u : List ℕ) → Seam t u → past_gap u ≡ u → ends_at stops u ≡ true
    → (r s : List ℕ)
    → ((r2 s2 : List ℕ) → length r2 < length r → Parting t u r2 s2
    → last_or r2 (ends_of stops r2) ≡ t → flaws_of stops r2 ≡ Whole → PartsKept stops u s2)
    → Parting t u r s → last_or r (ends_of stops r) ≡ t → flaws_of stops r ≡ Whole
    → PartsKept stops u s
parts-step stops t u m g stop r s more h last whole = by (ends_at stops r) refl
  where
    ended : r ≡ t → PartsKept stops u s
    ended e =
        let same : s ≡ u = (parting-end t u r s h (omega (arith, ap length e))).1 in
        subst (PartsKept stops u) (sym same) (kept-end stops u stop)

    by : (k : Bool) → ends_at stops r ≡ k → PartsKept stops u s
    by true e =
        ended (sym (ap (λ (p : Read). last_or r (map (λ one. one.1) p.0))
        (parts-none stops r e)) ∙ last)
    by false e =
        let v = value_at r in
        let y = value_at s in
        let r2 = past_gap v.1 in
        let s2 = past_gap y.1 in
        let all = parts-some stops r e in
        let last2 : last_or v.1 (ends_of stops r2) ≡ t =
        sym (ap (λ (p : Read). last_or r (map (λ one. one.1) p.0)) all)
        ∙ last in
        let flaws = first_flaw-whole v.0 (flaws_of stops r2)
        (sym (ap (λ (p : Read). flaw_of_all (map (λ one. one.0) p.0)) all)
        ∙ whole) in
        let gap = past_gap-within v.1 in
        let here : length t ≤ length v.1 =
        omega (arith, ap length last2, ends-within stops r2 v.1 gap) in
        let less : length v.1 < length r = value-less stops r e in
        let kept = value-kept t u m deepest r s h (omega (arith, here, less)) flaws.0 here in
        let on_s : ends_at stops s ≡ false =
        sym (ends-same stops t u r s h (omega (arith, here, less))) ∙ e in
        inner v.1 y.1 kept.1 last2 flaws.1 (omega (arith, gap, less))
        (kept-then stops u s on_s kept.0) (ends_at stops r2) refl
      where
        inner : (r1 s1 : List ℕ) → Parting t u r1 s1
            → last_or r1 (ends_of stops (past_gap r1)) ≡ t
            → flaws_of stops (past_gap r1) ≡ Whole → length (past_gap r1) < length r
            → (PartsKept stops u (past_gap s1)
            → last_or s1 (ends_of stops (past_gap s1)) ≡ u → PartsKept stops u s)
            → (k : Bool) → ends_at stops (past_gap r1) ≡ k → PartsKept stops u s
        inner r1 s1 k last2 flaw less joined true f =
            let end_is : r1 ≡ t =
            sym (ap (λ (p : Read). last_or r1 (map (λ one. one.1) p.0))
            (parts-none stops (past_gap r1) f)) ∙ last2 in
            let same : s1 ≡ u = (parting-end t u r1 s1 k (omega (arith, ap length end_is))).1 in
            let rest : past_gap s1 ≡ u = ap past_gap same ∙ g in
            let whole_end = kept-end stops u stop in
            joined (subst (PartsKept stops u) (sym rest) whole_end)
            (ap (λ (x : List ℕ). last_or x (ends_of stops (past_gap s1))) same
            ∙ ap (λ (x : List ℕ). last_or u (ends_of stops x)) rest ∙ whole_end.last)
        inner r1 s1 k last2 flaw less joined false f =
            let r2 = past_gap r1 in
            let s2 = past_gap s1 in
            let v2 = value_at r2 in
            let again : last_or r2 (ends_of stops r2) ≡ t =
            last-other stops r2 r1 r2 f ∙ last2 in
            let deeper : last_or v2.1 (ends_of stops (past_gap v2.1)) ≡ t =
            sym (ap (λ (p : Read). last_or r2 (map (λ one. one.1) p.0))
            (parts-some stops r2 f)) ∙ again in
            let strict : length t < length r2 =
            omega (
              arith,
              ap length deeper,
              ends-within stops (past_gap v2.1) v2.1 (past_gap-within v2.1),
              value-less stops r2 f,
            ) in
            let gap = gap-kept t u m.no_slash m.no_star r1 s1 k strict in
            let rest = more r2 s2 less gap again flaw in
            let on_s : ends_at stops s2 ≡ false = sym (ends-same stops t u r2 s2 gap strict) ∙ f in
            joined rest (last-other stops s1 s2 s2 on_s ∙ rest.last)

pub parts-kept : (stops : Stops) (t u : List ℕ) → Seam t u → past_gap u ≡ u
    → ends_at stops u ≡ true
    → (m : ℕ) (r s : List ℕ) → length r ≤ m → Parting t u r s
    → last_or r (ends_of stops r) ≡ t → flaws_of stops r ≡ Whole → PartsKept stops u s
parts-kept stops t u w g stop zero r s l =
    parts-step stops t u w g stop r s
    (λ r2 s2 less h last whole. absurd (omega (arith, less, l)))
parts-kept stops t u w g stop (suc m) r s l =
    parts-step stops t u w g stop r s
    (λ r2 s2 less h last whole.
    parts-kept stops t u w g stop m r2 s2 (omega (arith, less, l)) h last whole)
