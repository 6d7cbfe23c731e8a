-- The stretches into which a selector is cut: components joined by child and adjacent combinators.
use Rattle.std.specs.Prelude.{◌≡◌, ℕ, ◌<◌, ◌≤◌, ◌↔◌, List, [], ◌∷◌, ◌++◌, ◌⊎◌, Some, None, length}
use Rattle.std.specs.List.{Contains, last_or}
use Rattle.std.specs.List.Sorted.{IsStrictlyIncreasing}
use Rattle.simplecss_grammar.specs.Components.{Component, Combinator}
use Rattle.simplecss_grammar.specs.Components.Combinator.{none, descendant, child, adjacent}
use Rattle.simplecss_selector.specs.Shapes.{component_at}

-- a component begins a stretch exactly if it is the first or its combinator is descendant
abbrev pub BeginsStretch : List Component → ℕ → Type 0
BeginsStretch cs k = (k ≡ 0) ⊎ ((component_at cs k).combinator ≡ descendant)

-- The components from `first` to `last` are in one stretch, which the first of them begins.
pub record IsStretch (cs : List Component) (first last : ℕ) : Type 0 where
  pub ordered : first ≤ last
  pub within : last < length cs
  pub begun : BeginsStretch cs first
  pub unbroken : (k : ℕ) → first < k → k ≤ last → BeginsStretch cs k → ⊥

-- For each stretch, in order, the number of components up to its end: these ends rise strictly from
-- 0, the last is the number of components, and a component begins a stretch exactly if it is the
-- first or its index is the end of a stretch.
pub record AreStretchEnds (cs : List Component) (ends : List ℕ) : Type 0 where
  pub rising : IsStrictlyIncreasing (0 ∷ ends)
  pub whole : last_or None ends ≡ Some (length cs)
  pub begins : (k : ℕ) → k < length cs → BeginsStretch cs k ↔ Contains (0 ∷ ends) k

-- the ends of all stretches, from the kept ends before the last stretch; the last stretch ends with
-- the components
abbrev pub all_stretch_ends : List Component → List ℕ → List ℕ
all_stretch_ends cs kept = kept ++ length cs ∷ []

-- the kept ends, once one more component is joined to the first `n`
abbrev pub kept_ends_after : Combinator → ℕ → List ℕ → List ℕ
kept_ends_after none n kept = kept
kept_ends_after descendant n kept = kept ++ n ∷ []
kept_ends_after child n kept = kept
kept_ends_after adjacent n kept = kept
