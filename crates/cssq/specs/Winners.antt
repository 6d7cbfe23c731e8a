-- Which declarations win on an element: the cascade (CSS 2.1 section 6.4.1) within one style sheet.
use Rattle.std.specs.Prelude.{◌≡◌, ◌⊎◌, ℕ, ◌<◌, Bool, true, false, List, map, Option, None, Some}
use Rattle.std.specs.List.{slice_get}
use Rattle.simplecss.specs.Declarations.{StyleDeclaration}
use Rattle.simplecss.specs.Statements.{StyleRule}
use Rattle.simplecss.specs.Trees.{Tree}
use Rattle.simplecss.specs.Placements.{HasPlacement}

-- A set of declarations: for each index of a rule and index in that rule, whether it has a
-- declaration there, and which.
abbrev pub DeclarationSet : Type 1
DeclarationSet = ℕ → ℕ → StyleDeclaration → Type 0

-- The declaration is at index `j` of the rule at index `i`, and this rule has a placement on the
-- node.
pub record IsStated {Node : Type 0} (tree : Tree Node) (n : Node) (rules : List StyleRule)
    (i j : ℕ) (p : StyleDeclaration) : Type 0 where
  pub rule : StyleRule
  pub rule_at : slice_get rules i ≡ Some rule
  pub takes : HasPlacement tree rule.components n
  pub declared : slice_get rule.declarations j ≡ Some p

-- an important declaration weighs more
abbrev pub weight : Bool → ℕ
weight true = 1
weight false = 0

-- A declaration `x` at index `j` of the rule at index `i` beats `y` at index `l` of the rule at
-- index `k`: `x` is more important; or as important and of a later rule; or as important, of the
-- same rule, and later in it.
pub data Beats (x : StyleDeclaration) (i j : ℕ) (y : StyleDeclaration) (k l : ℕ) : Type 0 where
  by_importance : weight y.important < weight x.important → Beats x i j y k l
  by_rule : weight x.important ≡ weight y.important → k < i → Beats x i j y k l
  by_index : weight x.important ≡ weight y.important → k ≡ i → l < j → Beats x i j y k l

-- The declaration of the name is in the set at this index, and no other of the name in the set
-- beats it.
pub record WinsAt (has : DeclarationSet) (name : List ℕ) (i j : ℕ)
    (p : StyleDeclaration) : Type 0 where
  pub stated : has i j p
  pub named : p.name ≡ name
  pub unbeaten : (k l : ℕ) (q : StyleDeclaration) → has k l q → q.name ≡ name → Beats q k l p i j
      → ⊥

-- none of the name is in the set
abbrev pub HasNone : DeclarationSet → List ℕ → Type 0
HasNone has name = (i j : ℕ) (p : StyleDeclaration) → has i j p → p.name ≡ name → ⊥

-- what wins, or none if none of the name is in the set
abbrev pub Wins : DeclarationSet → List ℕ → Option StyleDeclaration → Type 0
Wins has name None = HasNone has name
Wins has name (Some p) = (i : ℕ) × (j : ℕ) × WinsAt has name i j p

-- Among the declarations of a name in the rules that have a placement on the node, a winner is one
-- that no other beats.
abbrev pub IsWinner : {Node : Type 0} → Tree Node → Node → List ℕ → List StyleRule
    → StyleDeclaration → Type 0
IsWinner tree n name rules p = Wins (IsStated tree n rules) name (Some p)

-- no rule that has a placement on the node has a declaration of the name
abbrev pub HasNoWinner : {Node : Type 0} → Tree Node → Node → List ℕ → List StyleRule → Type 0
HasNoWinner tree n name rules = HasNone (IsStated tree n rules) name

-- What wins on the node for its own name.
abbrev pub WinsForItsName : {Node : Type 0} → Tree Node → Node → List StyleRule → DeclarationSet
WinsForItsName tree n rules i j p = WinsAt (IsStated tree n rules) p.name i j p

-- a declaration with the index of its rule, and its index in the rule
pub record Indexed : Type 0 where
  pub rule : ℕ
  pub index : ℕ
  pub declaration : StyleDeclaration

-- index `k` of rule `i` is before index `l` of rule `j`
abbrev pub IsEarlier : ℕ → ℕ → ℕ → ℕ → Type 0
IsEarlier i k j l = (i < j) ⊎ ((i ≡ j) × (k < l))

-- The declarations are all those in the set, once for each index at which one is, in the order of
-- their indices.
pub record ListsInOrder (has : DeclarationSet) (declarations : List StyleDeclaration) : Type 0 where
  pub indexed : List Indexed
  pub are : map (λ a. a.declaration) indexed ≡ declarations
  pub member : (k : ℕ) (a : Indexed) → slice_get indexed k ≡ Some a
      → has a.rule a.index a.declaration
  pub rise : (k l : ℕ) (a b : Indexed) → k < l → slice_get indexed k ≡ Some a
      → slice_get indexed l ≡ Some b
      → IsEarlier a.rule a.index b.rule b.index
  pub all : (i j : ℕ) (p : StyleDeclaration) → has i j p
      → (k : ℕ) × (slice_get indexed k ≡ Some (record { rule = i; index = j; declaration = p }))

-- no two of the declarations have the same name
abbrev pub HaveOwnNames : List StyleDeclaration → Type 0
HaveOwnNames declarations =
    (k l : ℕ) (p q : StyleDeclaration) → k < l → slice_get declarations k ≡ Some p
    → slice_get declarations l ≡ Some q → p.name ≡ q.name → ⊥
