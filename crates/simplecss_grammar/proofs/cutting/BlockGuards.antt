-- A block read on from a text whose brace it does not pass.
-- Serves `StyleSheet::parse_more` and `laws::cutting_law` (a text read in pieces).
use Rattle.std.proofs.Common.{◌≡◌, ℕ, ◌≤◌, IsUtf8, List, ◌∷◌, ◌++◌, Bool, true, false, if◌then◌else◌, length, None, arith, refl, inl, inr}
use Rattle.css_text.specs.AsciiBytes.{close_brace}
use Rattle.css_text.specs.Reading.{Reading, got, fails, each, found, left_after}
use Rattle.css_text.specs.Characters.{Edition}
use Rattle.simplecss_grammar.specs.Declarations.{StyleDeclaration, declaration, next_declaration}
use Rattle.simplecss_grammar.specs.Blocks.{ends_list, declaration_in_block}
use Rattle.simplecss_grammar.proofs.reading.DeclarationLemmas.{declaration_in_block-takes}
use Rattle.css_text.proofs.reading.EachLemmas.{not_empty}
use Rattle.simplecss_grammar.proofs.reading.LocalLemmas.{Diverge, at, on, Guard, Equal, Step, Repeats, each-repeats}
use Rattle.css_text.proofs.reading.WellLemmas.{found-text}
use Rattle.simplecss_grammar.proofs.reading.Lawful.{lawful-guarded}
use Rattle.simplecss_grammar.proofs.reading.DeclarationsLawful.{declaration-lawful, declaration_in_block-well}

-- reading a declaration would pass the brace, where the list of them continues
pub data DeclarationPasses (edition : Edition) (t a : List ℕ) : Type 0 where
  passes : ends_list a ≡ false → length (left_after (declaration edition a)) ≤ length t
      → DeclarationPasses edition t a

pub ends_list-diverge : (t u r s : List ℕ) → Diverge (close_brace ∷ t) (close_brace ∷ u) r s
    → ends_list r ≡ ends_list s
ends_list-diverge t u r s at = rw (not_empty close_brace t, not_empty close_brace u) refl
ends_list-diverge t u r s (on b r1 s1 h) = rw (not_empty b r1, not_empty b s1) refl

found-step : (edition : Edition) (t u r : List ℕ) (a b : Reading StyleDeclaration)
    → Guard Equal true (close_brace ∷ t) (close_brace ∷ u) a b
    → (length (left_after a) ≤ length t → DeclarationPasses edition t r)
    → Step Equal (DeclarationPasses edition t) close_brace t u r (found a) (found b)
found-step edition t u r (got x p) (got y q) (inl h) stuck = inl h
found-step edition t u r (got x p) (fails f q) (inl h) stuck = h
found-step edition t u r (fails f p) (got y q) (inl h) stuck = stuck h
found-step edition t u r (fails f p) (fails e q) (inl h) stuck = tt
found-step edition t u r (got x p) (got y q) (inr h) stuck = inr h
found-step edition t u r (got x p) (fails f q) (inr h) stuck = absurd h
found-step edition t u r (fails f p) (got y q) (inr h) stuck = absurd h
found-step edition t u r (fails f p) (fails e q) (inr h) stuck = tt

listed-step : (edition : Edition) (u v r s : List ℕ) → IsUtf8 r
    → Diverge (close_brace ∷ (u ++ v)) (close_brace ∷ u) r s
    → Step Equal (DeclarationPasses edition (u ++ v)) close_brace (u ++ v) u r
    (declaration_in_block edition r) (declaration_in_block edition s)
listed-step edition u v r s w h =
    by (ends_list r) (ends_list s) refl (ends_list-diverge (u ++ v) u r s h)
  where
    by : (j k : Bool) → ends_list r ≡ j → j ≡ k
        → Step Equal (DeclarationPasses edition (u ++ v)) close_brace (u ++ v) u r
        (if j then None else next_declaration edition r)
        (if k then None else next_declaration edition s)
    by true true e f = tt
    by true false e f = absurd (cc)
    by false true e f = absurd (cc)
    by false false e f =
        found-step edition (u ++ v) u r (declaration edition r) (declaration edition s)
        (lawful-guarded declaration declaration declaration-lawful edition u v r s w h)
        (λ l. passes e l)

pub listed-repeats : (edition : Edition) (u v r s : List ℕ) → IsUtf8 r
    → Diverge (close_brace ∷ (u ++ v)) (close_brace ∷ u) r s
    → Repeats Equal (DeclarationPasses edition (u ++ v)) close_brace (u ++ v) u
    (each (declaration_in_block edition) r) (each (declaration_in_block edition) s)
listed-repeats edition u v r s w h =
    each-repeats IsUtf8 Equal (DeclarationPasses edition (u ++ v)) close_brace (u ++ v) u
    (declaration_in_block edition) (declaration_in_block-takes edition)
    (found-text (declaration_in_block edition) (declaration_in_block-well edition))
    (listed-step edition u v) (length r) r s (omega arith) w h
