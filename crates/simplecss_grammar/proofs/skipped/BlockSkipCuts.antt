-- A block skips the same where the text is cut after it or later.
-- Serves `laws::skips_are_cut` (what is skipped of a text in pieces).
use Rattle.std.proofs.Common.{◌≡◌, ◌≤◌, ◌<◌, ◌⊎◌, ℕ, Bool, true, false, if◌then◌else◌, ◌==◌, List, [], ◌∷◌, ◌++◌, ap, ◌∙◌, arith, inl, inr, length, map, refl, sym, IsUtf8, None}
use Rattle.std.proofs.lemmas.List.{map-append}
use Rattle.css_text.specs.AsciiBytes.{close_brace}
use Rattle.css_text.specs.Reading.{Reading, got, fails, each, found, left_after}
use Rattle.css_text.specs.Bytes.{past_byte, starts}
use Rattle.css_text.specs.Characters.{Edition}
use Rattle.css_text.specs.Comments.{blank, opens_comment, past_blank}
use Rattle.simplecss_grammar.specs.Declarations.{StyleDeclaration, declaration, stated_name}
use Rattle.simplecss_grammar.specs.Blocks.{from_block_end, ends_list, declaration_in_block, past_broken, past_list, block}
use Rattle.simplecss_grammar.specs.Skipped.{open_comment, broken_declaration, extra_brace, brace_skips, list_end_skips, if_broken, list_skips, block_skips}
use Rattle.simplecss_grammar.specs.SkippedLaws.{skip_before}
use Rattle.css_text.proofs.bytes.GapLemmas.{past_blank-again}
use Rattle.css_text.proofs.reading.EachLemmas.{each-stops}
use Rattle.css_text.proofs.reading.TakesLemmas.{cuts-keeps}
use Rattle.simplecss_grammar.proofs.reading.OpenValues.{block_skips-left}
use Rattle.simplecss_grammar.proofs.reading.DeclarationLemmas.{declaration_in_block-takes, length-from_block_end}
use Rattle.simplecss_grammar.proofs.reading.DeclarationsLawful.{declaration-cuts, declaration-lawful, declaration_in_block-well}
use Rattle.simplecss_grammar.proofs.reading.Lawful.{lawful-guarded}
use Rattle.simplecss_grammar.proofs.reading.LocalLemmas.{Diverge, at, on, To, Guard, Equal, Repeats, diverge-append, longer-diverge}
use Rattle.simplecss_grammar.proofs.reading.SearchLemmas.{brace_plain, opens_comment-diverge, past_blank-to}
use Rattle.css_text.proofs.reading.WellLemmas.{each-well}
use Rattle.simplecss_grammar.proofs.cutting.BlockGuards.{DeclarationPasses, passes, listed-repeats, ends_list-diverge}
use Rattle.simplecss_grammar.proofs.cutting.BlockEndGuards.{Exact, before_it, after_it, from_block_end-to, past_brace-exact, less_of_brace}
use Rattle.simplecss_grammar.proofs.cutting.BlockCuts.{Lost, at_brace, brace-lost, list-lost, none_broken, stuck-lost, taken-lost}

-- a declaration begins with a blank
pub declaration-after_blank : (edition : Edition) (text : List ℕ)
    → length (left_after (declaration edition text)) ≤ length (past_blank text)
unfolding declaration stated_name blank
declaration-after_blank edition text = by (opens_comment (past_blank text)) refl
  where
    by : (k : Bool) → opens_comment (past_blank text) ≡ k
        → length (left_after (declaration edition text)) ≤ length (past_blank text)
    by true e = rw e (omega arith)
    by false e =
        let same : declaration edition text ≡ declaration edition (past_blank text) =
        rw (past_blank-again text, e) refl in
        let less : length (left_after (declaration edition (past_blank text))) ≤ length
        (past_blank text)
        = cuts-keeps (past_blank text) (declaration edition (past_blank text))
        (declaration-cuts edition (past_blank text)) in
        rw same less

-- a further brace
brace_skips-same : (u v r s : List ℕ) → Exact close_brace (u ++ v) u r s
    → (length (past_byte close_brace r) < length (u ++ v))
    ⊎ (brace_skips r ≡ map (skip_before v) (brace_skips s))
brace_skips-same u v r s (before_it a b at) = inr refl
brace_skips-same u v r s (before_it a b (on c x y h)) =
    inr (by (c == close_brace) (diverge-append close_brace u v x y h))
  where
    by : (k : Bool) → x ≡ y ++ v
        → (if k then record { from = c ∷ x; after = x; why = extra_brace } ∷ [] else [])
        ≡ map (skip_before v)
        (if k then record { from = c ∷ y; after = y; why = extra_brace } ∷ [] else [])
    by true e = rw e refl
    by false e = refl
brace_skips-same u v r s after_it = by (starts close_brace (u ++ v)) refl
  where
    none : (u : List ℕ) → starts close_brace (u ++ v) ≡ false → brace_skips u ≡ []
    none [] e = refl
    none (b ∷ u) e = rw e refl

    by : (k : Bool) → starts close_brace (u ++ v) ≡ k
        → (length (past_byte close_brace (u ++ v)) < length (u ++ v))
        ⊎ (brace_skips (u ++ v) ≡ map (skip_before v) (brace_skips u))
    by true e = inl (less_of_brace (u ++ v) e)
    by false e = inr (rw (e, none u e) refl)

-- what is in place of a declaration
list_end_skips-same : (u v p q x y : List ℕ)
    → Diverge (close_brace ∷ (u ++ v)) (close_brace ∷ u) p q
    → Diverge (close_brace ∷ (u ++ v)) (close_brace ∷ u) x y
    → (if ends_list p then [] else record {
      from = p;
      after = x;
      why = if opens_comment p then open_comment else broken_declaration;
    } ∷ []) ≡ map (skip_before v) (if ends_list q then [] else record {
      from = q;
      after = y;
      why = if opens_comment q then open_comment else broken_declaration;
    } ∷ [])
list_end_skips-same u v p q x y h k =
    by (ends_list p) (ends_list q) (opens_comment p) (opens_comment q)
    (ends_list-diverge (u ++ v) u p q h)
    (opens_comment-diverge close_brace (u ++ v) u brace_plain p q h)
    (diverge-append close_brace u v p q h) (diverge-append close_brace u v x y k)
  where
    by : (i j c d : Bool) → i ≡ j → c ≡ d → p ≡ q ++ v → x ≡ y ++ v
        → (if i then [] else record {
          from = p;
          after = x;
          why = if c then open_comment else broken_declaration;
        } ∷ []) ≡ map (skip_before v) (if j then [] else record {
          from = q;
          after = y;
          why = if d then open_comment else broken_declaration;
        } ∷ [])
    by true true c d e f g h = refl
    by true false c d e f g h = absurd (cc)
    by false true c d e f g h = absurd (cc)
    by false false true true e f g h = rw (g, h) refl
    by false false false false e f g h = rw (g, h) refl
    by false false true false e f g h = absurd (cc)
    by false false false true e f g h = absurd (cc)

-- a broken declaration in the text a, and in b
broken-same : (u v a b : List ℕ) (d e : Reading StyleDeclaration) → found d ≡ None
    → Guard Equal true (close_brace ∷ (u ++ v)) (close_brace ∷ u) d e
    → length (left_after d) ≤ length (past_blank a)
    → Diverge (close_brace ∷ (u ++ v)) (close_brace ∷ u) a b
    → Lost (u ++ v) (past_byte close_brace (past_broken d))
    ⊎ (if_broken a d ≡ map (skip_before v) (if_broken b e))
broken-same u v a b d e n (inl l) less h =
    inl (brace-lost (u ++ v) (past_broken d) (stuck-lost (u ++ v) d n l))
broken-same u v a b (got p r) e n (inr g) less h = absurd (cc)
broken-same u v a b (fails f r) (got q s) n (inr g) less h = absurd g
broken-same u v a b (fails f r) (fails g s) n (inr k) less h = by (from_block_end-to u v r s k)
  where
    x : List ℕ
    x = from_block_end r

    y : List ℕ
    y = from_block_end s

    Same : Type 0
    Same =
        Lost (u ++ v) (past_byte close_brace (past_byte close_brace x))
        ⊎ (list_end_skips a x ++ brace_skips (past_byte close_brace x)
        ≡ map (skip_before v) (list_end_skips b y ++ brace_skips (past_byte close_brace y)))

    both : list_end_skips a x ≡ map (skip_before v) (list_end_skips b y)
        → (length (past_byte close_brace (past_byte close_brace x)) < length (u ++ v))
        ⊎ (brace_skips (past_byte close_brace x)
        ≡ map (skip_before v) (brace_skips (past_byte close_brace y)))
        → Same
    both one (inl l) = inl (inl l)
    both one (inr two) =
        inr (rw (one, two)
        (sym
        (map-append (skip_before v) (list_end_skips b y) (brace_skips (past_byte close_brace y)))))

    ended : Diverge (close_brace ∷ (u ++ v)) (close_brace ∷ u) x y
        → To true (close_brace ∷ (u ++ v)) (close_brace ∷ u) (past_blank a) (past_blank b)
        → list_end_skips a x ≡ map (skip_before v) (list_end_skips b y)
    ended i (inl l) =
        absurd (omega (arith, l, less, length-from_block_end r, longer-diverge _ _ x y i))
    ended i (inr j) = list_end_skips-same u v (past_blank a) (past_blank b) x y j i

    by : To true (close_brace ∷ (u ++ v)) (close_brace ∷ u) x y → Same
    by (inl l) =
        inl (brace-lost (u ++ v) (past_byte close_brace x) (taken-lost (u ++ v) x (at_brace r) l))
    by (inr i) =
        both (ended i (past_blank-to close_brace u v brace_plain a b h))
        (brace_skips-same u v (past_byte close_brace x) (past_byte close_brace y)
        (past_brace-exact (u ++ v) u x y i))

-- some text is left on both sides
diverge-some : (t u r s : List ℕ) → Diverge (close_brace ∷ t) (close_brace ∷ u) r s
    → (0 < length r) × (0 < length s)
diverge-some t u r s at = (omega arith, omega arith)
diverge-some t u r s (on b r1 s1 h) = (omega arith, omega arith)

pub block_skips-same : (edition : Edition) (u v r s : List ℕ) → IsUtf8 r
    → Diverge (close_brace ∷ (u ++ v)) (close_brace ∷ u) r s
    → Lost (u ++ v) (block edition r).1
    ⊎ (block_skips edition r ≡ map (skip_before v) (block_skips edition s))
unfolding block
block_skips-same edition u v r s w h =
    by (each (declaration_in_block edition) r) (each (declaration_in_block edition) s)
    (each-stops (declaration_in_block edition) (declaration_in_block-takes edition) r)
    ((each-well (declaration_in_block edition) (declaration_in_block-well edition) r).1 w)
    (block_skips-left edition r) (block_skips-left edition s)
    (listed-repeats edition u v r s w h)
  where
    Same : List ℕ → Type 0
    Same a =
        Lost (u ++ v) (past_byte close_brace (past_list edition a))
        ⊎ (block_skips edition r ≡ map (skip_before v) (block_skips edition s))

    ends : (a b : List ℕ) → declaration_in_block edition a ≡ None → IsUtf8 a
        → Diverge (close_brace ∷ (u ++ v)) (close_brace ∷ u) a b → (i j : Bool) → ends_list a ≡ i
        → i ≡ j
        → Lost (u ++ v)
        (past_byte close_brace (if i then a else past_broken (declaration edition a)))
        ⊎ ((if i then [] else if_broken a (declaration edition a))
        ≡ map (skip_before v) (if j then [] else if_broken b (declaration edition b)))
    ends a b n z k true true e f = inr refl
    ends a b n z k true false e f = absurd (cc)
    ends a b n z k false true e f = absurd (cc)
    ends a b n z k false false e f =
        broken-same u v a b (declaration edition a) (declaration edition b)
        (none_broken edition a e n)
        (lawful-guarded declaration declaration declaration-lawful edition u v a b z k)
        (declaration-after_blank edition a) k

    both : (a b : List ℕ) → block_skips edition r ≡ list_skips edition a
        → block_skips edition s ≡ list_skips edition b
        → Lost (u ++ v) (past_byte close_brace (past_list edition a))
        ⊎ (list_skips edition a ≡ map (skip_before v) (list_skips edition b)) → Same a
    both a b x y (inl lost) = inl lost
    both a b x y (inr same) = inr (x ∙ same ∙ ap (map (skip_before v)) (sym y))

    by : (a b : List StyleDeclaration × List ℕ) → declaration_in_block edition a.1 ≡ None
        → IsUtf8 a.1 → (0 < length a.1 → block_skips edition r ≡ list_skips edition a.1)
        → (0 < length b.1 → block_skips edition s ≡ list_skips edition b.1)
        → Repeats Equal (DeclarationPasses edition (u ++ v)) close_brace (u ++ v) u a b → Same a.1
    by a b n z x y (inl l) = inl (list-lost edition (u ++ v) a.1 l)
    by a b n z x y (inr (inl (passes e l))) =
        inl (rw e
        (brace-lost (u ++ v) (past_broken (declaration edition a.1))
        (stuck-lost (u ++ v) (declaration edition a.1) (none_broken edition a.1 e n) l)))
    by a b n z x y (inr (inr k)) =
        let some = diverge-some (u ++ v) u a.1 b.1 k.1 in
        both a.1 b.1 (x some.0) (y some.1)
        (ends a.1 b.1 n z k.1 (ends_list a.1) (ends_list b.1) refl
        (ends_list-diverge (u ++ v) u a.1 b.1 k.1))
