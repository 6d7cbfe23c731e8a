-- How many tests matching makes at most. A test is that of one compound selector on one node,
-- whatever conditions it has.
use Rattle.std.specs.Prelude.{◌≢◌, ℕ, ◌+◌, ◌<◌, Bool, true, false, if◌then◌else◌, List, [], ◌∷◌, length, max}
use Rattle.css_matching.specs.declared.Combinator.{Combinator}
use Rattle.css_matching.specs.declared.Combinator.TheVariants.{Descendant, Child, Adjacent, Sibling}
use Rattle.css_matching.specs.Bounds.{width}
use Rattle.css_selectors.specs.Documents.{Document, shape}
use Rattle.css_selector_text.specs.Components.{Part, parts_from}
use Rattle.css_selectors.specs.Meanings.{combinator_at}

-- the number of earlier siblings of the node and of all its ancestors
abbrev pub earlier_siblings : {Node : Type 0} → Document Node → Node → ℕ
earlier_siblings document n = width (shape document) (document.depth n + 1) n

-- no part after the first is joined by `~` to the part before it
abbrev pub HasNoSibling : List Part → Type 0
HasNoSibling parts = (i : ℕ) → 0 < i → i < length parts → combinator_at (parts_from parts) i ≢ Sibling

-- whether the combinator leads back to at most one node: to the parent, or to the sibling directly
-- before
abbrev pub is_step : Combinator → Bool
is_step Descendant = false
is_step Child = true
is_step Adjacent = true
is_step Sibling = false

-- the number of parts at the start that are each joined by `>` or `+` to the part before
abbrev pub joined_length : List Part → ℕ
joined_length [] = 0
joined_length (p ∷ ps) = if is_step p.combinator then joined_length ps + 1 else 0

-- the number of parts of the longest stretch of `>` and `+`
abbrev pub longest_stretch : List Part → ℕ
longest_stretch [] = 0
longest_stretch (p ∷ ps) = max (joined_length ps + 1) (longest_stretch ps)
