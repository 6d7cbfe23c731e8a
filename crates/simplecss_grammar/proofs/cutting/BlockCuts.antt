-- A block reads the same where the text is cut after it or later.
-- Serves `StyleSheet::parse_more` and `laws::cutting_law` (a text read in pieces).
use Rattle.std.proofs.Common.{◌≡◌, ℕ, zero, suc, ◌<◌, ◌≤◌, List, [], ◌∷◌, ◌++◌, Bool, true, false, if◌then◌else◌, ◌==◌, length, drop, slice_index, None, arith, refl, ap, ◌∙◌, ◌⊎◌, inl, inr, drop_of_length-le, IsUtf8}
use Rattle.css_text.specs.AsciiBytes.{close_brace}
use Rattle.css_text.specs.Reading.{Reading, got, fails, each, found, left_after}
use Rattle.css_text.specs.Bytes.{past_byte, starts}
use Rattle.css_text.specs.Characters.{Edition}
use Rattle.simplecss_grammar.specs.Declarations.{StyleDeclaration, declaration, next_declaration}
use Rattle.simplecss_grammar.specs.Blocks.{closes_block, block_end, from_block_end, ends_list, declaration_in_block, past_broken, past_list, block}
use Rattle.std.proofs.lemmas.Bool.{cases_lt, and_parts}
use Rattle.css_text.proofs.reading.EachLemmas.{each-stops, not_empty}
use Rattle.css_text.proofs.reading.TakesLemmas.{Cuts, length-past_byte}
use Rattle.simplecss_grammar.proofs.reading.DeclarationLemmas.{declaration_in_block-takes, length-from_block_end}
use Rattle.simplecss_grammar.proofs.reading.LocalLemmas.{Diverge, To, Guard, Equal, Repeats, pairs-equal}
use Rattle.simplecss_grammar.proofs.reading.LeastLemmas.{least-passes}
use Rattle.simplecss_grammar.proofs.reading.DeclarationsLawful.{declaration-cuts, declaration-lawful, declaration_in_block-well}
use Rattle.simplecss_grammar.proofs.reading.Lawful.{lawful-guarded}
use Rattle.css_text.proofs.reading.WellLemmas.{each-well}
use Rattle.simplecss_grammar.proofs.cutting.BlockGuards.{DeclarationPasses, passes, listed-repeats, ends_list-diverge}
use Rattle.simplecss_grammar.proofs.cutting.BlockEndGuards.{from_block_end-to, Exact, past_brace-exact, past_further-exact, less_of_brace}

-- less is left than t, or nothing
abbrev pub Lost : List ℕ → List ℕ → Type 0
Lost t x = (length x < length t) ⊎ (x ≡ [])

starts-drop : (c n : ℕ) (x : List ℕ) → n < length x → starts c (drop n x) ≡ (slice_index x n == c)
starts-drop c n [] h = absurd (omega arith)
starts-drop c zero (b ∷ x) h = refl
starts-drop c (suc n) (b ∷ x) h = starts-drop c n x (omega arith)

-- a block's end is the text's end or a closing brace
pub at_brace : (x : List ℕ)
    → (from_block_end x ≡ []) ⊎ (starts close_brace (from_block_end x) ≡ true)
unfolding block_end
at_brace x = by (cases_lt (block_end x) (length x))
  where
    by : (block_end x < length x) ⊎ (length x ≤ block_end x)
        → (from_block_end x ≡ []) ⊎ (starts close_brace (from_block_end x) ≡ true)
    by (inr l) = inl (drop_of_length-le x l)
    by (inl l) =
        let closes : closes_block x (block_end x) ≡ true =
        least-passes (closes_block x) (length x) l in
        inr (starts-drop close_brace (block_end x) x l ∙ (and_parts _ _ closes).0)

pub taken-lost : (t x : List ℕ) → (x ≡ []) ⊎ (starts close_brace x ≡ true) → length x ≤ length t
    → Lost t (past_byte close_brace x)
taken-lost t x (inl e) l = inr (ap (past_byte close_brace) e)
taken-lost t x (inr e) l = inl (omega (arith, less_of_brace x e))

broken-lost : (t rest : List ℕ) → length rest ≤ length t
    → Lost t (past_byte close_brace (from_block_end rest))
broken-lost t rest l =
    taken-lost t (from_block_end rest) (at_brace rest) (omega (arith, length-from_block_end rest))

pub brace-lost : (t x : List ℕ) → Lost t x → Lost t (past_byte close_brace x)
brace-lost t x (inl l) = inl (omega (arith, length-past_byte close_brace x))
brace-lost t x (inr e) = inr (ap (past_byte close_brace) e)

-- where the list of declarations ends after the brace
pub list-lost : (edition : Edition) (t a : List ℕ) → length a ≤ length t
    → Lost t (past_byte close_brace (past_list edition a))
list-lost edition t a l = by (ends_list a) refl
  where
    ended : (x : List ℕ) → length x ≤ length t → ends_list x ≡ true
        → Lost t (past_byte close_brace x)
    ended [] m e = inr refl
    ended (b ∷ x) m e = brace (b == close_brace) (rw (not_empty b x) at e)
      where
        brace : (k : Bool) → k ≡ true → Lost t (if k then x else b ∷ x)
        brace true f = inl (omega arith)
        brace false f = absurd (cc)

    broken : (d : Reading StyleDeclaration) → Cuts a d → Lost t (past_broken d)
    broken (got p rest) c = inl (omega arith)
    broken (fails f rest) c = broken-lost t rest (omega arith)

    by : (k : Bool) → ends_list a ≡ k
        → Lost t (past_byte close_brace (if k then a else past_broken (declaration edition a)))
    by true e = ended a l e
    by false e =
        brace-lost t (past_broken (declaration edition a))
        (broken (declaration edition a) (declaration-cuts edition a))

-- What a block leaves: less than t or nothing, or the same list was read and it ends alike
abbrev pub BlockSame : List ℕ → List ℕ → List StyleDeclaration × List ℕ
    → List StyleDeclaration × List ℕ → Type 0
BlockSame t u a b = Lost t a.1 ⊎ ((a.0 ≡ b.0) × Exact close_brace t u a.1 b.1)

pub none_broken : (edition : Edition) (a : List ℕ) → ends_list a ≡ false
    → declaration_in_block edition a ≡ None → found (declaration edition a) ≡ None
none_broken edition a e n = by (ends_list a) e n
  where
    by : (k : Bool) → k ≡ false → (if k then None else next_declaration edition a) ≡ None
        → found (declaration edition a) ≡ None
    by true f m = absurd (cc)
    by false f m = m

pub stuck-lost : (t : List ℕ) (d : Reading StyleDeclaration) → found d ≡ None
    → length (left_after d) ≤ length t → Lost t (past_broken d)
stuck-lost t (got p rest) e l = absurd (cc)
stuck-lost t (fails f rest) e l = broken-lost t rest l

broken-same : (u v : List ℕ) (d e : Reading StyleDeclaration) → found d ≡ None
    → Guard Equal true (close_brace ∷ (u ++ v)) (close_brace ∷ u) d e
    → Lost (u ++ v) (past_byte close_brace (past_broken d)) ⊎ Exact close_brace (u ++ v) u
    (past_byte close_brace (past_broken d)) (past_byte close_brace (past_broken e))
broken-same u v d e n (inl h) =
    inl (brace-lost (u ++ v) (past_broken d) (stuck-lost (u ++ v) d n h))
broken-same u v (got p r) e n (inr h) = absurd (cc)
broken-same u v (fails f r) (got q s) n (inr h) = absurd h
broken-same u v (fails f r) (fails g s) n (inr h) = by (from_block_end-to u v r s h)
  where
    further : (length (past_byte close_brace (past_byte close_brace (from_block_end r)))
        < length (u ++ v))
        ⊎ Exact close_brace (u ++ v) u
        (past_byte close_brace (past_byte close_brace (from_block_end r)))
        (past_byte close_brace (past_byte close_brace (from_block_end s)))
        → Lost (u ++ v) (past_byte close_brace (past_byte close_brace (from_block_end r)))
        ⊎ Exact close_brace (u ++ v) u
        (past_byte close_brace (past_byte close_brace (from_block_end r)))
        (past_byte close_brace (past_byte close_brace (from_block_end s)))
    further (inl l) = inl (inl l)
    further (inr x) = inr x

    by : To true (close_brace ∷ (u ++ v)) (close_brace ∷ u) (from_block_end r) (from_block_end s)
        → Lost (u ++ v) (past_byte close_brace (past_byte close_brace (from_block_end r)))
        ⊎ Exact close_brace (u ++ v) u
        (past_byte close_brace (past_byte close_brace (from_block_end r)))
        (past_byte close_brace (past_byte close_brace (from_block_end s)))
    by (inl l) =
        inl (brace-lost (u ++ v) (past_byte close_brace (from_block_end r))
        (taken-lost (u ++ v) (from_block_end r) (at_brace r) l))
    by (inr k) =
        further (past_further-exact u v _ _
        (past_brace-exact (u ++ v) u (from_block_end r) (from_block_end s) k))

pub block-same : (edition : Edition) (u v r s : List ℕ) → IsUtf8 r
    → Diverge (close_brace ∷ (u ++ v)) (close_brace ∷ u) r s
    → BlockSame (u ++ v) u (block edition r) (block edition s)
unfolding block
block-same edition u v r s w h =
    by (each (declaration_in_block edition) r) (each (declaration_in_block edition) s)
    (each-stops (declaration_in_block edition) (declaration_in_block-takes edition) r)
    ((each-well (declaration_in_block edition) (declaration_in_block-well edition) r).1 w)
    (listed-repeats edition u v r s w h)
  where
    by : (a b : List StyleDeclaration × List ℕ) → declaration_in_block edition a.1 ≡ None
        → IsUtf8 a.1 → Repeats Equal (DeclarationPasses edition (u ++ v)) close_brace (u ++ v) u a b
        → BlockSame (u ++ v) u (a.0, past_byte close_brace (past_list edition a.1))
        (b.0, past_byte close_brace (past_list edition b.1))
    by a b n z (inl l) = inl (list-lost edition (u ++ v) a.1 l)
    by a b n z (inr (inl (passes e l))) =
        inl (rw e
        (brace-lost (u ++ v) (past_broken (declaration edition a.1))
        (stuck-lost (u ++ v) (declaration edition a.1) (none_broken edition a.1 e n) l)))
    by a b n z (inr (inr k)) =
        ends (ends_list a.1) (ends_list b.1) refl (ends_list-diverge (u ++ v) u a.1 b.1 k.1)
      where
        same : Lost (u ++ v) (past_byte close_brace (past_broken (declaration edition a.1)))
            ⊎ Exact close_brace
            (u ++ v) u (past_byte close_brace (past_broken (declaration edition a.1)))
            (past_byte close_brace (past_broken (declaration edition b.1)))
            → BlockSame (u ++ v) u
            (a.0, past_byte close_brace (past_broken (declaration edition a.1)))
            (b.0, past_byte close_brace (past_broken (declaration edition b.1)))
        same (inl l) = inl l
        same (inr x) = inr (pairs-equal a.0 b.0 k.0, x)

        ends : (i j : Bool) → ends_list a.1 ≡ i → i ≡ j
            → BlockSame (u ++ v) u
            (a.0, past_byte close_brace (if i then a.1 else past_broken (declaration edition a.1)))
            (b.0, past_byte close_brace (if j then b.1 else past_broken (declaration edition b.1)))
        ends true true e f = inr (pairs-equal a.0 b.0 k.0, past_brace-exact (u ++ v) u a.1 b.1 k.1)
        ends true false e f = absurd (cc)
        ends false true e f = absurd (cc)
        ends false false e f =
            same (broken-same u v (declaration edition a.1) (declaration edition b.1)
            (none_broken edition a.1 e n)
            (lawful-guarded declaration declaration declaration-lawful edition u v a.1 b.1 z k.1))
