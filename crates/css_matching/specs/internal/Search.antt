-- What the search for a placement has established, from the last part to the first.
use Rattle.std.specs.Prelude.{◌≡◌, ℕ, zero, suc, ◌+◌, ◌<◌, ◌≤◌, Option, Some, None}
use Rattle.css_matching.specs.declared.Combinator.{Combinator}
use Rattle.css_matching.specs.declared.Combinator.TheVariants.{Descendant, Child, Adjacent, Sibling}
use Rattle.css_matching.specs.declared.matching.Fit.{Fit}
use Rattle.css_matching.specs.declared.matching.Fit.TheVariants.{Mismatch, NoNode, Complete, Continues}
use Rattle.css_matching.specs.Trees.{Tree}
use Rattle.css_matching.specs.Placements.{IsBeyond, Relates}
use Rattle.css_matching.specs.Bounds.{level_count, run_length, longest_free, fixed_length, above_length}

-- the first node is the second, or reached from it by steps of `next`
pub data IsAlong {Node : Type 0} (next : Node → Option Node) : Node → Node → Type 0 where
  here : {n : Node} → IsAlong next n n
  after : {m p n : Node} → next n ≡ Some p → IsAlong next m p → IsAlong next m n

-- it holds of the node or of one that is reached from it by steps of `next`
abbrev pub Can : {Node : Type 0} → (Node → Option Node) → (Node → Type 0) → Node → Type 0
Can {Node} next R n = (m : Node) × IsAlong next m n × R m

-- with part `q` on the node, the parts before it can be placed
abbrev pub Before : {Node : Type 0} → Tree Node → (ℕ → Combinator) → (ℕ → Node → Type 0) → ℕ → Node
    → Type 0
Before tree combinator Meets zero n = Unit {0}
Before {Node} tree combinator Meets (suc q) n =
    (m : Node) × Relates tree (combinator (suc q)) m n
    × (Meets q m × Before tree combinator Meets q m)

-- the parts up to `q` can be placed with part `q` on the node
abbrev pub Reaches : {Node : Type 0} → Tree Node → (ℕ → Combinator) → (ℕ → Node → Type 0) → ℕ → Node
    → Type 0
Reaches tree combinator Meets q n = Meets q n × Before tree combinator Meets q n

-- the combinator leads up
abbrev pub IsUp : Combinator → Type 0
IsUp Descendant = Unit {0}
IsUp Child = Unit {0}
IsUp Adjacent = ⊥
IsUp Sibling = ⊥

-- the parts from `first` to `last` are placed on siblings, with `last` on `n`, and what is before
-- them is above these siblings
pub record Level {Node : Type 0} (tree : Tree Node) (combinator : ℕ → Combinator)
    (Meets : ℕ → Node → Type 0) (first last : ℕ) (n : Node) : Type 0 where
  pub within : first ≤ last
  pub up : 0 < first → IsUp (combinator first)
  pub enter : Before tree combinator Meets first n → Reaches tree combinator Meets last n
  pub leave : (m : Node) → Reaches tree combinator Meets last m
      → Before tree combinator Meets first m
  pub levels : level_count combinator first ≡ level_count combinator last
  pub fixed : fixed_length combinator last ≡ run_length combinator last + above_length combinator first
  pub free : above_length combinator first ≡ above_length combinator last

-- the parts up to `rest` are to be placed along `next` from `v` on
pub record Rest {Node : Type 0} (tree : Tree Node) (combinator : ℕ → Combinator)
    (Meets : ℕ → Node → Type 0) (next : Node → Option Node) (rest last : ℕ) (n v : Node) : Type 0 where
  pub fewer : rest < last
  pub beyond : IsBeyond next v n
  pub nothing_lost : Can next (Reaches tree combinator Meets last) n
      → Can next (Reaches tree combinator Meets rest) v
  pub enough : Can next (Reaches tree combinator Meets rest) v
      → Reaches tree combinator Meets last n

-- and a placement of the parts up to `last` places those up to `rest` on siblings
pub record Leaves {Node : Type 0} (tree : Tree Node) (combinator : ℕ → Combinator)
    (Meets : ℕ → Node → Type 0) (rest last : ℕ) (n v : Node) : Type 0 where
  pub shared : tree.parent v ≡ tree.parent n
  pub levels : level_count combinator rest ≡ level_count combinator last
  pub fixed : fixed_length combinator last ≡ run_length combinator last + above_length combinator rest
  pub free : above_length combinator rest ≡ above_length combinator last
  pub bounded : run_length combinator rest ≤ longest_free combinator last
  pub leave : (m : Node) → Reaches tree combinator Meets last m
      → (k : Node) × (tree.parent k ≡ tree.parent m) × Reaches tree combinator Meets rest k

-- what the result says of a run tried with its last part on `n`
abbrev pub FindsRun : {Node E : Type 0} → Tree Node → (ℕ → Combinator) → (ℕ → Node → Type 0)
    → (E → Node) → ℕ → Node → Fit E → Type 0
FindsRun tree combinator Meets node last n Mismatch = Reaches tree combinator Meets last n → ⊥
FindsRun tree combinator Meets node last n NoNode =
    Can tree.previous_sibling (Reaches tree combinator Meets last) n → ⊥
FindsRun tree combinator Meets node last n (Complete first) =
    Level tree combinator Meets first last n
FindsRun tree combinator Meets node last n (Continues rest e) =
    Rest tree combinator Meets tree.previous_sibling rest last n (node e)
    × Leaves tree combinator Meets rest last n (node e)

-- Each part that a run or a stretch has placed was tested. `before` and `now` count tests.
abbrev pub HasTested : {E : Type 0} → ℕ → ℕ → ℕ → Fit E → Type 0
HasTested before now last Mismatch = before < now
HasTested before now last NoNode = before < now
HasTested before now last (Complete first) = before + last < now + first
HasTested before now last (Continues rest e) = before + last ≤ now + rest

-- the same of a stretch, which is complete with all parts
abbrev pub HasTestedAll : {E : Type 0} → ℕ → ℕ → ℕ → Fit E → Type 0
HasTestedAll before now last Mismatch = before < now
HasTestedAll before now last NoNode = before < now
HasTestedAll before now last (Complete first) = before + last < now
HasTestedAll before now last (Continues rest e) = before + last ≤ now + rest

-- the same of a level
abbrev pub HasTestedLevel : ℕ → ℕ → ℕ → Option ℕ → Type 0
HasTestedLevel before now last None = before < now
HasTestedLevel before now last (Some first) = before + last < now + first

-- what the result says of a level tried with its last part on `n`
abbrev pub FindsLevel : {Node : Type 0} → Tree Node → (ℕ → Combinator) → (ℕ → Node → Type 0) → ℕ
    → Node → Option ℕ → Type 0
FindsLevel tree combinator Meets last n None = Reaches tree combinator Meets last n → ⊥
FindsLevel tree combinator Meets last n (Some first) = Level tree combinator Meets first last n

-- what the result says of a stretch tried with its last part on `n`
abbrev pub FindsStretch : {Node E : Type 0} → Tree Node → (ℕ → Combinator) → (ℕ → Node → Type 0)
    → (E → Node) → ℕ → Node → Fit E → Type 0
FindsStretch tree combinator Meets node last n Mismatch = Reaches tree combinator Meets last n → ⊥
FindsStretch tree combinator Meets node last n NoNode =
    Can tree.parent (Reaches tree combinator Meets last) n → ⊥
FindsStretch tree combinator Meets node last n (Complete first) =
    Reaches tree combinator Meets last n
FindsStretch tree combinator Meets node last n (Continues rest e) =
    Rest tree combinator Meets tree.parent rest last n (node e)
