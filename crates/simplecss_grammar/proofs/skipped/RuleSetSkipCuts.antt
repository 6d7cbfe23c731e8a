-- A rule set skips the same where the text is cut after it or later.
-- Serves `laws::skips_are_cut` (what is skipped of a text in pieces).
use Rattle.std.proofs.Common.{◌≡◌, ◌≤◌, ◌<◌, ◌⊎◌, ℕ, zero, suc, Bool, true, false, not, if◌then◌else◌, ◌==◌, ◌||◌, List, [], ◌∷◌, ◌++◌, ap, arith, inl, inr, length, map, refl, subst, sym, ◌∙◌, IsUtf8, Option, Some, None, eqb-true}
use Rattle.std.proofs.lemmas.List.{map-append}
use Rattle.std.specs.Option.{option_map}
use Rattle.css_text.specs.AsciiBytes.{close_brace, comma as comma_byte, open_brace}
use Rattle.css_text.specs.Reading.{Ends, got, fails, follow, left_after, no_comment}
use Rattle.css_text.specs.Bytes.{past, past_byte, past_one, starts, from_brace}
use Rattle.css_text.specs.Characters.{Edition, is_space}
use Rattle.css_text.specs.Comments.{blank, gap, has_space, opens_comment, past_blank}
use Rattle.simplecss_grammar.specs.Components.{Component}
use Rattle.simplecss_grammar.specs.Neighbours.Side.{open_side}
use Rattle.simplecss_grammar.specs.Selectors.{Outcome, outcome, reads, selector_of}
use Rattle.simplecss_grammar.specs.Selectors.Outcome.{accepted, refused as is_refused}
use Rattle.simplecss_grammar.specs.Blocks.{block}
use Rattle.simplecss_grammar.specs.Statements.{part, part_and_comma, parts, next_block, rule_set}
use Rattle.simplecss_grammar.specs.Skipped.{Refusal, Skip, leading_comma, refusal, past_refused, refused_part, selector_skips, why_after, skips_after_read, part_skips, parts_skips, block_skips, next_block_skips, comma_skips, rule_set_skips}
use Rattle.simplecss_grammar.specs.SkippedLaws.{refusal_before, skip_before}
use Rattle.css_text.proofs.bytes.Utf8Lemmas.{utf8-after, utf8-past_byte_if}
use Rattle.css_text.proofs.reading.EachLemmas.{each-none, each-some, not_empty, took}
use Rattle.css_text.proofs.reading.EndsLemmas.{ends-ends, ends-past}
use Rattle.css_text.proofs.reading.TakesLemmas.{length-past, length-past_one}
use Rattle.simplecss_grammar.proofs.reading.StatementTextLemmas.{length-parts, part_and_comma-takes}
use Rattle.simplecss_grammar.proofs.reading.SkipLemmas.{parts_skips-last, parts_skips-some}
use Rattle.simplecss_grammar.proofs.reading.LocalLemmas.{Diverge, at, on, To, Same, diverge-append, longer-diverge, past-both, past_byte-to, past_one-diverge, starts-diverge}
use Rattle.simplecss_grammar.proofs.reading.SearchLemmas.{brace_plain, past_blank-to}
use Rattle.simplecss_grammar.proofs.reading.SequenceSteps.{gap_sequence, sequence_from-by}
use Rattle.css_text.proofs.reading.WellLemmas.{found-text}
use Rattle.simplecss_grammar.proofs.cutting.OutcomeGuards.{left_of}
use Rattle.simplecss_grammar.proofs.cutting.SelectorGuards.{gap_sequence-within}
use Rattle.simplecss_grammar.proofs.cutting.BlockCuts.{Lost}
use Rattle.simplecss_grammar.proofs.cutting.RuleSetCuts.{next_block-lost, opened-lost, part-same, parts-same}
use Rattle.simplecss_grammar.proofs.cutting.StatementEnds.{part_and_comma-well, parts-ends}
use Rattle.simplecss_grammar.proofs.skipped.RefusalGuards.{refusal-alike}
use Rattle.simplecss_grammar.proofs.skipped.BlockSkipCuts.{block_skips-same}

-- ---- selectors

-- a selector begins with a blank
pub reads-after_blank : (edition : Edition) (text : List ℕ)
    → length (reads edition text).1 ≤ length (past_blank text)
unfolding reads gap blank
reads-after_blank edition text =
    rw (sequence_from-by edition open_side text)
    (left (outcome (gap_sequence edition open_side (gap text)))
    (gap_sequence-within edition (length (past_blank text)) open_side (gap text) kept))
  where
    left : (o : Outcome) → length (left_of o) ≤ length (past_blank text)
        → length (selector_of o).1 ≤ length (past_blank text)
    left (is_refused x) l = l
    left (accepted roles x) l = l

    kept : length (left_after (gap text)) ≤ length (past_blank text)
    kept = by (opens_comment (past_blank text))
      where
        by : (k : Bool)
            → length (left_after (follow
            (if k then fails (no_comment (past_blank text)) [] else got (tt {0}) (past_blank text))
            (λ u. got (has_space text)))) ≤ length (past_blank text)
        by true = omega arith
        by false = omega arith

-- a refused selector
refused_part-same : (v p q x y : List ℕ) (r s : List ℕ) (o : Option Refusal)
    → past_blank r ≡ past_blank s ++ v → past_refused x ≡ past_refused y ++ v
    → refused_part r x (option_map (refusal_before v) o)
    ≡ map (skip_before v) (refused_part s y o)
refused_part-same v p q x y r s None e f = refl
refused_part-same v p q x y r s (Some refusal) e f = rw (e, f) refl

-- what an accepted selector leaves
after_read-same : (u v x y : List ℕ) (o : Option (List Component))
    → Diverge (close_brace ∷ (u ++ v)) (close_brace ∷ u) x y
    → (starts comma_byte x ≡ true)
    ⊎ Diverge (close_brace ∷ (u ++ v)) (close_brace ∷ u) (from_brace x) (from_brace y)
    → skips_after_read o x ≡ map (skip_before v) (skips_after_read o y)
after_read-same u v x y None h c = refl
after_read-same u v x y (Some selector) h c =
    by (starts comma_byte x) (starts comma_byte y) (starts open_brace x) (starts open_brace y) refl
    (starts-diverge close_brace (u ++ v) u comma_byte x y h)
    (starts-diverge close_brace (u ++ v) u open_brace x y h) c
  where
    later : (a b : List ℕ) → Diverge (close_brace ∷ (u ++ v)) (close_brace ∷ u) a b
        → record { from = x; after = a; why = why_after a } ∷ []
        ≡ map (skip_before v) (record { from = y; after = b; why = why_after b } ∷ [])
    later a b at =
        rw (
          not_empty close_brace (u ++ v),
          not_empty close_brace u,
          diverge-append close_brace u v x y h,
        ) refl
    later a b (on c a1 b1 k) =
        rw (
          not_empty c a1,
          not_empty c b1,
          diverge-append close_brace u v x y h,
          diverge-append close_brace u v a1 b1 k,
        ) refl

    by : (i j k l : Bool) → starts comma_byte x ≡ i → i ≡ j → k ≡ l
        → (starts comma_byte x ≡ true)
        ⊎ Diverge (close_brace ∷ (u ++ v)) (close_brace ∷ u) (from_brace x) (from_brace y)
        → (if i || k then []
        else record { from = x; after = from_brace x; why = why_after (from_brace x) } ∷ [])
        ≡ map (skip_before v) (if j || l then []
        else record { from = y; after = from_brace y; why = why_after (from_brace y) } ∷ [])
    by true true k l e f g c = refl
    by true false k l e f g c = absurd (cc)
    by false true k l e f g c = absurd (cc)
    by false false true true e f g c = refl
    by false false true false e f g c = absurd (cc)
    by false false false true e f g c = absurd (cc)
    by false false false false e f g (inl d) = absurd (cc)
    by false false false false e f g (inr d) = later (from_brace x) (from_brace y) d

-- Of a part: it has passed the brace, or no comma follows it and no opening brace before that one,
-- or both skip the same.
abbrev PartSkipsSame : Edition → (u v r s : List ℕ) → Type 0
PartSkipsSame edition u v r s =
    (length (part edition r).1 ≤ length (u ++ v))
    ⊎ (((starts comma_byte (part edition r).1 ≡ false)
    × (length (from_brace (part edition r).1) ≤ length (u ++ v)))
    ⊎ (part_skips edition r ≡ map (skip_before v) (part_skips edition s)))

part_skips-same : (edition : Edition) (u v r s : List ℕ) → IsUtf8 r
    → Diverge (close_brace ∷ (u ++ v)) (close_brace ∷ u) r s → PartSkipsSame edition u v r s
unfolding part_skips selector_skips part
part_skips-same edition u v r s w h =
    by (part-same edition u v r s w h) (refusal-alike edition u v r s w h)
    (past_blank-to close_brace u v brace_plain r s h)
  where
    x : List ℕ
    x = past is_space (reads edition r).1

    y : List ℕ
    y = past is_space (reads edition s).1

    both : Diverge (close_brace ∷ (u ++ v)) (close_brace ∷ u) x y
        → (reads edition r).0 ≡ (reads edition s).0
        → refusal edition r ≡ option_map (refusal_before v) (refusal edition s)
        → past_blank r ≡ past_blank s ++ v
        → past_refused x ≡ past_refused y ++ v
        → (starts comma_byte x ≡ true)
        ⊎ Diverge (close_brace ∷ (u ++ v)) (close_brace ∷ u) (from_brace x) (from_brace y)
        → refused_part r x (refusal edition r) ++ skips_after_read (reads edition r).0 x
        ≡ map (skip_before v)
        (refused_part s y (refusal edition s) ++ skips_after_read (reads edition s).0 y)
    both k e q b p c =
        ap (λ (o : Option Refusal). refused_part r x o ++ skips_after_read (reads edition r).0 x) q
        ∙ ap (λ (xs : List Skip). xs ++ skips_after_read (reads edition r).0 x)
        (refused_part-same v x y x y r s (refusal edition s) b p)
        ∙ ap (λ (o : Option (List Component)).
        map (skip_before v) (refused_part s y (refusal edition s)) ++ skips_after_read o x) e
        ∙ ap (λ (xs : List Skip). map (skip_before v) (refused_part s y (refusal edition s)) ++ xs)
        (after_read-same u v x y (reads edition s).0 k c)
        ∙ sym (map-append (skip_before v) (refused_part s y (refusal edition s))
        (skips_after_read (reads edition s).0 y))

    refused_at : (i j : Bool) → i ≡ j → x ≡ y ++ v → from_brace x ≡ from_brace y ++ v
        → (if i then x else from_brace x) ≡ (if j then y else from_brace y) ++ v
    refused_at true true e f g = f
    refused_at false false e f g = g
    refused_at true false e f g = absurd (cc)
    refused_at false true e f g = absurd (cc)

    comma : (i j : Bool) → i ≡ true → i ≡ j → x ≡ y ++ v
        → (if i then x else from_brace x) ≡ (if j then y else from_brace y) ++ v
    comma true true e f g = g
    comma true false e f g = absurd (cc)
    comma false j e f g = absurd (cc)

    go : Diverge (close_brace ∷ (u ++ v)) (close_brace ∷ u) x y
        → (reads edition r).0 ≡ (reads edition s).0
        → refusal edition r ≡ option_map (refusal_before v) (refusal edition s)
        → past_blank r ≡ past_blank s ++ v → (i : Bool) → starts comma_byte x ≡ i
        → PartSkipsSame edition u v r s
    go k e q b true c =
        inr (inr (both k e q b
        (comma (starts comma_byte x) (starts comma_byte y) c
        (starts-diverge close_brace (u ++ v) u comma_byte x y k)
        (diverge-append close_brace u v x y k)) (inl c)))
    go k e q b false c = brace (past-both close_brace (u ++ v) u (λ b. not (b == open_brace)) x y k)
      where
        brace : To true (close_brace ∷ (u ++ v)) (close_brace ∷ u) (from_brace x) (from_brace y)
            → PartSkipsSame edition u v r s
        brace (inl l) = inr (inl (c, l))
        brace (inr d) =
            inr (inr (both k e q b
            (refused_at (starts comma_byte x) (starts comma_byte y)
            (starts-diverge close_brace (u ++ v) u comma_byte x y k)
            (diverge-append close_brace u v x y k)
            (diverge-append close_brace u v (from_brace x) (from_brace y) d)) (inr d)))

    by : Same (u ++ v) u ((reads edition r).0, x) ((reads edition s).0, y)
        → (length (reads edition r).1 ≤ length (u ++ v))
        ⊎ (refusal edition r ≡ option_map (refusal_before v) (refusal edition s))
        → To true (close_brace ∷ (u ++ v)) (close_brace ∷ u) (past_blank r) (past_blank s)
        → PartSkipsSame edition u v r s
    by (inl l) q b = inl l
    by (inr k) (inl l) b = inl (omega (arith, l, length-past is_space (reads edition r).1))
    by (inr k) (inr q) (inl l) =
        inl (omega
        (arith, l, length-past is_space (reads edition r).1, reads-after_blank edition r))
    by (inr k) (inr q) (inr b) =
        go k.1 k.0 q (diverge-append close_brace u v (past_blank r) (past_blank s) b)
        (starts comma_byte x) refl

-- ---- parts

-- where the parts of a text end
pub parts-some : (edition : Edition) (text : List ℕ)
    → starts comma_byte (part edition text).1 ≡ true
    → (parts edition text).1 ≡ (parts edition (past_one (part edition text).1)).1
unfolding parts
parts-some edition text e =
    let read : part_and_comma edition text
    ≡ Some ((part edition text).0, past_one (part edition text).1) = rw e refl in
    ap (λ (found : List (Option (List Component)) × List ℕ). (part edition found.1).1)
    (each-some (part_and_comma edition) (part_and_comma-takes edition) text
    (past_one (part edition text).1) (part edition text).0 read)

pub parts-last : (edition : Edition) (text : List ℕ)
    → starts comma_byte (part edition text).1 ≡ false
    → (parts edition text).1 ≡ (part edition text).1
unfolding parts
parts-last edition text e =
    let read : part_and_comma edition text ≡ None = rw e refl in
    ap (λ (found : List (Option (List Component)) × List ℕ). (part edition found.1).1)
    (each-none (part_and_comma edition) text read)

-- Of parts: no opening brace follows them before that closing brace, or both skip the same.
abbrev PartsSkipsSame : Edition → (u v r s : List ℕ) → Type 0
PartsSkipsSame edition u v r s =
    (length (from_brace (parts edition r).1) ≤ length (u ++ v))
    ⊎ (parts_skips edition r ≡ map (skip_before v) (parts_skips edition s))

passed-brace : (t x y : List ℕ) → length x ≤ length y → length y ≤ length t
    → length (from_brace x) ≤ length t
passed-brace t x y l m = omega (arith, l, m, length-past (λ b. not (b == open_brace)) x)

parts_skips-step : (edition : Edition) (n : ℕ) (u v : List ℕ)
    → ((r s : List ℕ) → length r ≤ n → IsUtf8 r
    → Diverge (close_brace ∷ (u ++ v)) (close_brace ∷ u) r s
    → PartsSkipsSame edition u v r s)
    → (r s : List ℕ) → length r ≤ suc n → IsUtf8 r
    → Diverge (close_brace ∷ (u ++ v)) (close_brace ∷ u) r s
    → PartsSkipsSame edition u v r s
parts_skips-step edition n u v more r s l w h = by (starts comma_byte x) refl
  where
    x : List ℕ
    x = (part edition r).1

    y : List ℕ
    y = (part edition s).1

    -- a comma follows the first part, which ends past the cut
    early : starts comma_byte x ≡ true → length x ≤ length (u ++ v) → PartsSkipsSame edition u v r s
    early e passed =
        inl (passed-brace (u ++ v) (parts edition r).1 x
        (omega (
          arith,
          ap length (parts-some edition r e),
          length-parts edition (past_one x),
          length-past_one x,
        )) passed)

    -- a comma follows the first part
    commas : starts comma_byte x ≡ true → Same (u ++ v) u (part edition r) (part edition s)
        → PartSkipsSame edition u v r s → PartsSkipsSame edition u v r s
    commas e (inl passed) skips = early e passed
    commas e (inr k) (inl passed) = early e passed
    commas e (inr k) (inr (inl none)) = absurd (cc (e, none.0))
    commas e (inr k) (inr (inr same)) =
        go (past_one-diverge close_brace (u ++ v) u x y k.1)
      where
        text : IsUtf8 (past_one x)
        text =
            found-text (part_and_comma edition) (part_and_comma-well edition) r (past_one x)
            (part edition r).0 w (rw e refl)

        less : length (past_one x) < length r
        less =
            took (part_and_comma edition) (part_and_comma-takes edition) r (past_one x)
            (part edition r).0 (rw e refl)

        after : starts comma_byte y ≡ true
        after = sym (starts-diverge close_brace (u ++ v) u comma_byte x y k.1) ∙ e

        joined : PartsSkipsSame edition u v (past_one x) (past_one y)
            → PartsSkipsSame edition u v r s
        joined (inl passed) =
            inl (subst (λ (z : List ℕ). length (from_brace z) ≤ length (u ++ v))
            (sym (parts-some edition r e)) passed)
        joined (inr rests) =
            inr (parts_skips-some edition r x refl e
            ∙ ap (λ (xs : List Skip). xs ++ parts_skips edition (past_one x)) same
            ∙ ap (λ (xs : List Skip). map (skip_before v) (part_skips edition s) ++ xs) rests
            ∙ sym (map-append (skip_before v) (part_skips edition s)
            (parts_skips edition (past_one y)))
            ∙ ap (map (skip_before v)) (sym (parts_skips-some edition s y refl after)))

        go : To true (close_brace ∷ (u ++ v)) (close_brace ∷ u) (past_one x) (past_one y)
            → PartsSkipsSame edition u v r s
        go (inl passed) =
            inl (passed-brace (u ++ v) (parts edition r).1 (past_one x)
            (omega (arith, ap length (parts-some edition r e), length-parts edition (past_one x)))
            passed)
        go (inr diverge) =
            joined (more (past_one x) (past_one y) (omega (arith, less)) text diverge)

    -- no comma follows it
    last : starts comma_byte x ≡ false → Same (u ++ v) u (part edition r) (part edition s)
        → PartSkipsSame edition u v r s → PartsSkipsSame edition u v r s
    last e (inl passed) skips =
        inl (passed-brace (u ++ v) (parts edition r).1 x
        (omega (arith, ap length (parts-last edition r e))) passed)
    last e (inr k) (inl passed) =
        inl (passed-brace (u ++ v) (parts edition r).1 x
        (omega (arith, ap length (parts-last edition r e))) passed)
    last e (inr k) (inr (inl none)) =
        inl (subst (λ (z : List ℕ). length (from_brace z) ≤ length (u ++ v))
        (sym (parts-last edition r e)) none.1)
    last e (inr k) (inr (inr same)) =
        let after : starts comma_byte y ≡ false =
        sym (starts-diverge close_brace (u ++ v) u comma_byte x y k.1) ∙ e in
        inr (parts_skips-last edition r x refl e ∙ same
        ∙ ap (map (skip_before v)) (sym (parts_skips-last edition s y refl after)))

    by : (k : Bool) → starts comma_byte x ≡ k → PartsSkipsSame edition u v r s
    by true e =
        commas e (part-same edition u v r s w h)
        (part_skips-same edition u v r s w h)
    by false e = last e (part-same edition u v r s w h) (part_skips-same edition u v r s w h)

parts_skips-same : (edition : Edition) (u v : List ℕ) (n : ℕ) (r s : List ℕ) → length r ≤ n
    → IsUtf8 r → Diverge (close_brace ∷ (u ++ v)) (close_brace ∷ u) r s
    → PartsSkipsSame edition u v r s
parts_skips-same edition u v zero r s l w h =
    absurd (omega (arith, l, longer-diverge (close_brace ∷ (u ++ v)) (close_brace ∷ u) r s h))
parts_skips-same edition u v (suc n) r s l w h =
    parts_skips-step edition n u v (parts_skips-same edition u v n) r s l w h

-- ---- rule sets

next_block_skips-same : (edition : Edition) (u v whole r s : List ℕ) → IsUtf8 whole → Ends whole r
    → Diverge (close_brace ∷ (u ++ v)) (close_brace ∷ u) r s
    → Lost (u ++ v) (next_block edition r).1
    ⊎ (next_block_skips edition r ≡ map (skip_before v) (next_block_skips edition s))
unfolding next_block next_block_skips
next_block_skips-same edition u v whole r s w e h =
    by (from_brace r) (from_brace s)
    (ends-ends whole r (from_brace r) e (ends-past (λ b. not (b == open_brace)) r))
    (past-both close_brace (u ++ v) u (λ b. not (b == open_brace)) r s h)
  where
    Both : List ℕ → List ℕ → Type 0
    Both x y =
        Lost (u ++ v) (if starts open_brace x then block edition (past_one x) else ([], [])).1
        ⊎ ((if starts open_brace x then block_skips edition (past_one x) else [])
        ≡ map (skip_before v)
        (if starts open_brace y then block_skips edition (past_one y) else []))

    opened : (x y : List ℕ) → Ends whole x → Diverge (close_brace ∷ (u ++ v)) (close_brace ∷ u) x y
        → Both x y
    opened x y f at = inl (inr refl)
    opened x y f (on b x1 y1 k) = one (b == open_brace) refl
      where
        one : (i : Bool) → (b == open_brace) ≡ i
            → Lost (u ++ v) (if i then block edition x1 else ([], [])).1
            ⊎ ((if i then block_skips edition x1 else [])
            ≡ map (skip_before v) (if i then block_skips edition y1 else []))
        one true g =
            block_skips-same edition u v x1 y1
            (utf8-after whole x1 b (omega (arith, eqb-true b open_brace g)) w f) k
        one false g = inl (inr refl)

    by : (x y : List ℕ) → Ends whole x → To true (close_brace ∷ (u ++ v)) (close_brace ∷ u) x y
        → Both x y
    by x y f (inl l) = inl (opened-lost edition (u ++ v) x l)
    by x y f (inr k) = opened x y f k

-- no opening brace comes before that closing brace
next_block-opened : (edition : Edition) (t x : List ℕ) → length (from_brace x) ≤ length t
    → Lost t (next_block edition x).1
unfolding next_block
next_block-opened edition t x l = opened-lost edition t (from_brace x) l

comma_skips-same : (u v r s : List ℕ) → Diverge (close_brace ∷ (u ++ v)) (close_brace ∷ u) r s
    → comma_skips r ≡ map (skip_before v) (comma_skips s)
comma_skips-same u v r s at = refl
comma_skips-same u v r s (on b r1 s1 h) =
    by (b == comma_byte) (diverge-append close_brace u v r1 s1 h)
  where
    by : (k : Bool) → r1 ≡ s1 ++ v
        → (if k then record { from = b ∷ r1; after = r1; why = leading_comma } ∷ [] else [])
        ≡ map (skip_before v)
        (if k then record { from = b ∷ s1; after = s1; why = leading_comma } ∷ [] else [])
    by true e = rw e refl
    by false e = refl

-- a rule set, up to its block's end
pub rule_set_skips-same : (edition : Edition) (u v r s : List ℕ) → IsUtf8 r
    → Diverge (close_brace ∷ (u ++ v)) (close_brace ∷ u) r s
    → Lost (u ++ v) (rule_set edition r).1
    ⊎ (rule_set_skips edition r ≡ map (skip_before v) (rule_set_skips edition s))
unfolding rule_set rule_set_skips
rule_set_skips-same edition u v r s w h =
    comma (utf8-past_byte_if comma_byte r (omega arith) w)
    (past_byte-to (close_brace ∷ (u ++ v)) (close_brace ∷ u) comma_byte refl r s h)
  where
    x : List ℕ
    x = past_byte comma_byte r

    y : List ℕ
    y = past_byte comma_byte s

    a : List ℕ
    a = (parts edition x).1

    b : List ℕ
    b = (parts edition y).1

    Both : Type 0
    Both =
        Lost (u ++ v) (next_block edition a).1
        ⊎ (comma_skips r ++ (parts_skips edition x ++ next_block_skips edition a)
        ≡ map (skip_before v)
        (comma_skips s ++ (parts_skips edition y ++ next_block_skips edition b)))

    joined : parts_skips edition x ≡ map (skip_before v) (parts_skips edition y)
        → next_block_skips edition a ≡ map (skip_before v) (next_block_skips edition b)
        → comma_skips r ++ (parts_skips edition x ++ next_block_skips edition a)
        ≡ map (skip_before v)
        (comma_skips s ++ (parts_skips edition y ++ next_block_skips edition b))
    joined e f =
        let g : comma_skips r ≡ map (skip_before v) (comma_skips s) =
        comma_skips-same u v r s h in
        rw (e, f, g) (sym (map-append (skip_before v) (comma_skips s)
        (parts_skips edition y ++ next_block_skips edition b)
        ∙ ap (λ (xs : List Skip). map (skip_before v) (comma_skips s) ++ xs)
        (map-append (skip_before v) (parts_skips edition y) (next_block_skips edition b))))

    body : Lost (u ++ v) (next_block edition a).1
        ⊎ (next_block_skips edition a ≡ map (skip_before v) (next_block_skips edition b))
        → parts_skips edition x ≡ map (skip_before v) (parts_skips edition y) → Both
    body (inl l) e = inl l
    body (inr f) e = inr (joined e f)

    head : IsUtf8 x → Same (u ++ v) u (parts edition x) (parts edition y)
        → PartsSkipsSame edition u v x y → Both
    head z (inl l) skips = inl (next_block-lost edition (u ++ v) a l)
    head z (inr k) (inl l) = inl (lost l)
      where
        lost : length (from_brace a) ≤ length (u ++ v) → Lost (u ++ v) (next_block edition a).1
        lost m = next_block-opened edition (u ++ v) a m
    head z (inr k) (inr e) =
        body (next_block_skips-same edition u v x a b z (parts-ends edition x) k.1) e

    comma : IsUtf8 x
        → (length x < length (close_brace ∷ (u ++ v)))
        ⊎ Diverge (close_brace ∷ (u ++ v)) (close_brace ∷ u) x y → Both
    comma z (inl l) =
        inl (next_block-lost edition (u ++ v) a (omega (arith, length-parts edition x)))
    comma z (inr k) =
        head z (parts-same edition u v x y z k)
        (parts_skips-same edition u v (length x) x y (omega arith) z k)
