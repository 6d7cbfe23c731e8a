-- Rules in an ordered sheet and their indices in the source.
use Rattle.std.specs.Prelude.{◌≡◌, ◌⊎◌, ℕ, ◌<◌, List, Some, true}
use Rattle.std.specs.List.{slice_get}
use Rattle.css_text.specs.Ranks.{rank_by}
use Rattle.simplecss_grammar.specs.Specificity.{specificity}
use Rattle.simplecss_grammar.specs.Statements.{StyleRule}
use Rattle.simplecss_grammar.specs.Sheets.{is_smaller}

-- The rule has this index in the source, and its index in the ordered list is its rank there.
pub record IsFrom (source : List StyleRule) (i : ℕ) (a : StyleRule) : Type 0 where
  pub index : ℕ
  pub read : slice_get source index ≡ Some a
  pub ranked : rank_by is_smaller source index a ≡ i

-- Two rules, at indices `i` and `j`, of which the first has a smaller specificity, or an equal one
-- and is earlier in the source.
pub record ComesBefore (source : List StyleRule) (i j : ℕ) (a b : StyleRule) : Type 0 where
  pub first : IsFrom source i a
  pub second : IsFrom source j b
  pub before : (is_smaller a b ≡ true)
      ⊎ ((specificity a.components ≡ specificity b.components) × (first.index < second.index))
