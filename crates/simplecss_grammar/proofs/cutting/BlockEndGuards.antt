-- A block that ends directly after a brace ends there also where the text is cut after that brace
-- or later.
-- Serves `StyleSheet::parse_more` and `laws::cutting_law` (a text read in pieces).
use Rattle.std.proofs.Common.{◌≡◌, ℕ, ◌<◌, ◌≤◌, List, [], ◌∷◌, ◌++◌, Bool, true, false, if◌then◌else◌, ◌==◌, length, arith, refl, sym, ap, ◌∙◌, ◌⊎◌, inl, inr, length-append, length-drop, get_or, take}
use Rattle.std.proofs.lemmas.Bool.{cases_lt}
use Rattle.std.proofs.Math.ListN.{get_or-append}
use Rattle.std.proofs.lemmas.List.{take-append-le}
use Rattle.css_text.specs.AsciiBytes.{close_brace}
use Rattle.css_text.specs.Bytes.{past_byte, starts}
use Rattle.simplecss_grammar.specs.Blocks.{block_end, from_block_end, closes_block}
use Rattle.simplecss_grammar.proofs.reading.LocalLemmas.{Diverge, diverge-append, drop-to, at, on, To, longer-diverge, length-diverge}
use Rattle.simplecss_grammar.proofs.reading.LeastLemmas.{least-before, least-is, least-passes}

-- a block's end within the front of a text is that of the front
closes_block_local : (u v : List ℕ) (n : ℕ) → n < length u
    → closes_block (u ++ v) n ≡ closes_block u n
closes_block_local u v n h =
    let at : get_or (u ++ v) n 0 ≡ get_or u n 0 = get_or-append u v 0 n h in
    let front : take n (u ++ v) ≡ take n u = take-append-le n u v (omega arith) in
    rw (at, front) refl

block_end_local : (u v : List ℕ) → block_end (u ++ v) < length u → block_end u ≡ block_end (u ++ v)
unfolding block_end
block_end_local u v h =
    let inside : block_end (u ++ v) < length (u ++ v) = omega (arith, length-append u v) in
    let there : closes_block (u ++ v) (block_end (u ++ v)) ≡ true =
    least-passes (closes_block (u ++ v)) (length (u ++ v)) inside in
    least-is (closes_block u) (length u) (block_end (u ++ v)) h
    (sym (closes_block_local u v (block_end (u ++ v)) h) ∙ there)
    (λ j l. sym (closes_block_local u v j (omega arith))
    ∙ least-before (closes_block (u ++ v)) (length (u ++ v)) j l)

-- from the end of a block on
pub from_block_end-to : (u v r s : List ℕ) → Diverge (close_brace ∷ (u ++ v)) (close_brace ∷ u) r s
    → To true (close_brace ∷ (u ++ v)) (close_brace ∷ u) (from_block_end r) (from_block_end s)
from_block_end-to u v r s h = by (cases_lt (block_end (s ++ v)) (length s))
  where
    whole : r ≡ s ++ v
    whole = diverge-append close_brace u v r s h

    by : (block_end (s ++ v) < length s) ⊎ (length s ≤ block_end (s ++ v))
        → To true (close_brace ∷ (u ++ v)) (close_brace ∷ u) (from_block_end r) (from_block_end s)
    by (inr l) =
        let e : block_end r ≡ block_end (s ++ v) = ap block_end whole in
        inl (omega (
          arith,
          e,
          length-drop (block_end r) r,
          length-diverge (close_brace ∷ (u ++ v)) (close_brace ∷ u) r s h,
          length-append u v,
          longer-diverge (close_brace ∷ (u ++ v)) (close_brace ∷ u) r s h,
        ))
    by (inl l) =
        let e : block_end s ≡ block_end r = block_end_local s v l ∙ ap block_end (sym whole) in
        rw e (drop-to close_brace (u ++ v) u (block_end r) r s h)

-- Both readings end where the brace is or before it, with the same after it.
pub data Exact (g : ℕ) (t u : List ℕ) : List ℕ → List ℕ → Type 0 where
  after_it : Exact g t u t u
  before_it : (r s : List ℕ) → Diverge (g ∷ t) (g ∷ u) r s → Exact g t u r s

-- a brace is consumed
pub past_brace-exact : (t u r s : List ℕ) → Diverge (close_brace ∷ t) (close_brace ∷ u) r s
    → Exact close_brace t u (past_byte close_brace r) (past_byte close_brace s)
past_brace-exact t u r s at = after_it
past_brace-exact t u r s (on b r1 s1 h) = by (b == close_brace)
  where
    by : (k : Bool) → Exact close_brace t u (if k then r1 else b ∷ r1) (if k then s1 else b ∷ s1)
    by true = before_it r1 s1 h
    by false = before_it (b ∷ r1) (b ∷ s1) (on b r1 s1 h)

no_brace_front : (u v : List ℕ) → starts close_brace (u ++ v) ≡ false → past_byte close_brace u ≡ u
no_brace_front [] v e = refl
no_brace_front (b ∷ u) v e = rw e refl

pub no_brace : (u : List ℕ) → starts close_brace u ≡ false → past_byte close_brace u ≡ u
no_brace [] e = refl
no_brace (b ∷ u) e = rw e refl

pub less_of_brace : (t : List ℕ) → starts close_brace t ≡ true
    → length (past_byte close_brace t) < length t
less_of_brace [] e = absurd (cc)
less_of_brace (b ∷ t) e = rw e (omega arith)

-- one that follows is consumed too, and then less is left than after the first
pub past_further-exact : (u v r s : List ℕ) → Exact close_brace (u ++ v) u r s
    → (length (past_byte close_brace r) < length (u ++ v))
    ⊎ Exact close_brace (u ++ v) u (past_byte close_brace r)
    (past_byte close_brace s)
past_further-exact u v r s (before_it r1 s1 h) = inr (past_brace-exact (u ++ v) u r s h)
past_further-exact u v r s after_it = by (starts close_brace (u ++ v)) refl
  where
    by : (k : Bool) → starts close_brace (u ++ v) ≡ k
        → (length (past_byte close_brace (u ++ v)) < length (u ++ v)) ⊎ Exact close_brace (u ++ v) u
        (past_byte close_brace (u ++ v)) (past_byte close_brace u)
    by true e = inl (less_of_brace (u ++ v) e)
    by false e =
        let whole : past_byte close_brace (u ++ v) ≡ u ++ v = no_brace (u ++ v) e in
        let front : past_byte close_brace u ≡ u = no_brace_front u v e in
        inr (rw (whole, front) after_it)
