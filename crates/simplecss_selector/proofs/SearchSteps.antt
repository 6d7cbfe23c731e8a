-- Single steps of the search for a placement.
-- Serves `matching::{climb, place_stretch, continues}` (a step more of a search).
use Rattle.simplecss_selector.specs.declared.matching.Fit.{Fit}
use Rattle.simplecss_selector.specs.declared.matching.Fit.TheVariants.{Mismatch, NoNodeLeft, Complete, Continues}
use Rattle.std.proofs.Common.{◌≡◌, ◌<◌, ◌≤◌, ℕ, ◌+◌, arith, Option, ap, sym, ◌∙◌, IsTrue}
use Rattle.simplecss_grammar.specs.Components.{Combinator as Seen}
use Rattle.std.proofs.lemmas.Bool.{false≢true}
use Rattle.simplecss_selector.specs.Placements.{is_step}
use Rattle.simplecss_selector.specs.Trees.{Tree}
use Rattle.simplecss_selector.specs.internal.StretchFits.{TestsPlaced}
use Rattle.simplecss_selector.specs.internal.PlacementSearch.{step_from}
use Rattle.simplecss_grammar.specs.Components.Combinator.{descendant}

pub step_at : {Node : Type 0} (tree : Tree Node) (c d : Seen) (x u : Node) (o : Option Node) → c ≡ d
    → x ≡ u → o ≡ step_from tree c x → step_from tree d u ≡ o
step_at tree c d x u o e f s = cc

pub parent_at : {Node : Type 0} (tree : Tree Node) (x u : Node) (o : Option Node) → x ≡ u
    → o ≡ tree.parent x → tree.parent u ≡ o
parent_at tree x u o e p = cc

pub step_not : (c : Seen) → IsTrue (is_step c) → c ≡ descendant → ⊥
step_not c s e = false≢true (ap is_step (sym e) ∙ s)

-- the tests, with one made before
pub tests_before : {E : Type 0} (first last before begun after : ℕ) (fit : Fit E)
    → begun ≡ before + 1 → TestsPlaced first last begun (after + 1) fit
    → TestsPlaced first last before after fit
tests_before first last before begun after Mismatch e h = tt
tests_before first last before begun after NoNodeLeft e h = tt
tests_before first last before begun after Complete e h = omega arith
tests_before first last before begun after (Continues node) e h = omega arith

pub tested_more : (begun now after : ℕ) → begun ≤ now → now < after → begun ≤ after
tested_more begun now after h t = omega arith

pub placed_once : (begun last after : ℕ) → begun + last < after + 1 → begun + last ≤ after
placed_once begun last after t = omega arith

-- the first stretch is placed, and another ends before it
pub placed_first : (begun last after first end : ℕ) → begun + last < after + 1 + first → end ≡ first
    → begun + last ≤ after + end
placed_first begun last after first end t e = omega arith

-- nothing more is placed
pub placed_same : (begun last now after end : ℕ) → begun + last ≤ now + end → now < after
    → begun + last ≤ after + end
placed_same begun last now after end h t = omega arith

-- one more stretch is placed, and another ends before it
pub placed_more : (begun last now index after first end : ℕ) → begun + last ≤ now + (index + 1)
    → now + index < after + first → end ≡ first → begun + last ≤ after + end
placed_more begun last now index after first end h t e = omega arith

-- the last stretch is placed
pub placed_last : (begun last now index after : ℕ) → begun + last ≤ now + (index + 1)
    → now + index < after → begun + last ≤ after
placed_last begun last now index after h t = omega arith
