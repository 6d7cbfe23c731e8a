-- Lists of indices that say in which order the rules of a list are to be.
use Rattle.std.specs.Prelude.{◌≡◌, ℕ, ◌<◌, List, [], length, slice_index, slice_index_or, map}
use Rattle.simplecss_grammar.specs.Specificity.{specificity}
use Rattle.simplecss_grammar.specs.Statements.{StyleRule}
use Rattle.simplecss_grammar.specs.Sheets.{ordered}

-- in place of a rule past the end
abbrev pub no_rule : StyleRule
no_rule = record { components = []; declarations = [] }

abbrev pub rule_at : List StyleRule → ℕ → StyleRule
rule_at rules index = slice_index_or rules index no_rule

-- the specificity of the rule at an index
abbrev pub weight_at : List StyleRule → ℕ → List ℕ
weight_at rules index = specificity (rule_at rules index).components

-- each number below n, once
pub record IsOrder (n : ℕ) (indices : List ℕ) : Type 0 where
  pub long : length indices ≡ n
  pub below : (k : ℕ) → k < n → slice_index indices k < n
  pub apart : (j k : ℕ) → j < n → k < n → slice_index indices j ≡ slice_index indices k → j ≡ k

-- the indices of the rules of a list, as their specificity orders them
pub record OrdersRules (rules : List StyleRule) (indices : List ℕ) : Type 0 where
  pub order : IsOrder (length rules) indices
  pub gives : map (rule_at rules) indices ≡ ordered rules

-- at each index is the element from the index that the order names
abbrev pub IsMovedBy : {X : Type 0} → List ℕ → List X → List X → Type 0
IsMovedBy {X} indices old new =
    (k : ℕ) (d : X) → k < length old
    → slice_index_or new k d ≡ slice_index_or old (slice_index indices k) d
