-- Depths fall on the way up.
-- Serves `matching::{climb, continues}` (their loops end, and their tests are bounded).
use Rattle.std.proofs.Common.{◌≡◌, ◌+◌, ◌<◌, ◌≤◌, Option, Some, None, refl, sym, ◌∙◌, arith, IsTrue}
use Rattle.std.proofs.lemmas.Bool.{false≢true}
use Rattle.std.specs.Prelude.{MatchOption}
use Rattle.simplecss_grammar.specs.Components.{Combinator}
use Rattle.simplecss_grammar.specs.Components.Combinator.{none, descendant, child, adjacent}
use Rattle.simplecss_selector.specs.Trees.{Tree, DepthCountsAncestors, SiblingsShareParent}
use Rattle.simplecss_selector.specs.Placements.{Relates, is_step}
use Rattle.simplecss_selector.proofs.Ancestors.{sibling_parent}

depth_at : {Node : Type 0} (tree : Tree Node) → DepthCountsAncestors tree
    → (n : Node) (o : Option Node) → tree.parent n ≡ o
    → MatchOption o (tree.depth n ≡ 0) (λ p. tree.depth n ≡ tree.depth p + 1)
depth_at tree law n o e = rw (← e) (law n)

pub depth-parent : {Node : Type 0} (tree : Tree Node) → DepthCountsAncestors tree → (n p : Node)
    → tree.parent n ≡ Some p → tree.depth n ≡ tree.depth p + 1
depth-parent tree law n p e = depth_at tree law n (Some p) e

pub depth-below : {Node : Type 0} (tree : Tree Node) → DepthCountsAncestors tree → (n p : Node)
    → tree.parent n ≡ Some p → tree.depth p < tree.depth n
depth-below tree law n p e = omega (arith, depth-parent tree law n p e)

pub depth-above : {Node : Type 0} (tree : Tree Node) → DepthCountsAncestors tree → (n u p : Node)
    → tree.parent u ≡ Some p → tree.depth u ≤ tree.depth n → tree.depth p < tree.depth n
depth-above tree law n u p e h = omega (arith, depth-parent tree law u p e)

same_depth : {Node : Type 0} (tree : Tree Node) → DepthCountsAncestors tree
    → (m n : Node) (o : Option Node) → tree.parent m ≡ o → tree.parent n ≡ o
    → tree.depth m ≡ tree.depth n
same_depth tree law m n None e f =
    let a = depth_at tree law m None e in
    let b = depth_at tree law n None f in
    a ∙ sym b
same_depth tree law m n (Some p) e f =
    depth-parent tree law m p e ∙ sym (depth-parent tree law n p f)

pub depth-step : {Node : Type 0} (tree : Tree Node) → DepthCountsAncestors tree
    → SiblingsShareParent tree → (c : Combinator) (n v : Node) → IsTrue (is_step c)
    → Relates tree c v n → tree.depth v ≤ tree.depth n
depth-step tree law shared none n v s r = absurd r
depth-step tree law shared descendant n v s r = absurd (false≢true s)
depth-step tree law shared child n v s r = omega (arith, depth-parent tree law n v r)
depth-step tree law shared adjacent n v s r =
    omega (arith, same_depth tree law v n (tree.parent n) (sibling_parent tree shared r) refl)
