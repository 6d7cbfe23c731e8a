-- The result of trying a stretch of components at a node.
use Rattle.std.specs.Prelude.{ℕ, ◌+◌, ◌<◌, List}
use Rattle.simplecss_grammar.specs.Components.{Component}
use Rattle.simplecss_selector.specs.Trees.{Tree}
use Rattle.simplecss_selector.specs.internal.PlacementSearch.{IsWithin, Reaches, CanPlace}
use Rattle.simplecss_selector.specs.Shapes.{first_of}
use Rattle.simplecss_selector.specs.declared.matching.Fit.{Fit}
use Rattle.simplecss_selector.specs.declared.matching.Fit.TheVariants.{Mismatch, NoNodeLeft, Complete, Continues}

-- the components before `rest` are to be placed at or above `node`: no node whose ancestors are
-- ancestors of `n` does better
pub record LeavesRest {Node : Type 0} (tree : Tree Node) (cs : List Component) (left rest : ℕ)
    (n node : Node) : Type 0 where
  pub some : 0 < rest
  pub fewer : rest < left
  pub higher : tree.depth node < tree.depth n
  pub nothing_lost : (m : Node) → IsWithin tree m n → Reaches tree (first_of cs left) m
      → CanPlace tree (first_of cs rest) node
  pub enough : CanPlace tree (first_of cs rest) node → Reaches tree (first_of cs left) n

-- what the result says of the components up to index `last`, tried with that one on `n`, where the
-- stretch begins at index `first`
abbrev pub Finds : {Node E : Type 0} → Tree Node → (E → Node) → List Component → (first last : ℕ)
    → Node
    → Fit E → Type 0
Finds tree node cs first last n Mismatch = Reaches tree (first_of cs (last + 1)) n → ⊥
Finds {Node} tree node cs first last n NoNodeLeft =
    (m : Node) → IsWithin tree m n → Reaches tree (first_of cs (last + 1)) m → ⊥
Finds tree node cs first last n Complete = Reaches tree (first_of cs (last + 1)) n
Finds tree node cs first last n (Continues e) = LeavesRest tree cs (last + 1) first n (node e)

-- at least one test was made for each component that was placed
abbrev pub TestsPlaced : {E : Type 0} → (first last : ℕ) → ℕ → ℕ → Fit E → Type 0
TestsPlaced first last before after Mismatch = Unit {0}
TestsPlaced first last before after NoNodeLeft = Unit {0}
TestsPlaced first last before after Complete = before + last < after
TestsPlaced first last before after (Continues e) = before + last < after + first
