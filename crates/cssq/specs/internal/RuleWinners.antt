-- What wins within one rule or one list, and what is known of a rule that is skipped.
use Rattle.std.specs.Prelude.{◌≡◌, ℕ, ◌<◌, ◌≤◌, Bool, true, false, not, ◌&&◌, if◌then◌else◌, List, Option, None, Some}
use Rattle.std.specs.List.{slice_get}
use Rattle.simplecss.specs.Declarations.{StyleDeclaration}
use Rattle.simplecss.specs.Statements.{StyleRule}
use Rattle.simplecss.specs.Trees.{Tree}
use Rattle.simplecss.specs.Placements.{HasPlacement}
use Rattle.std.specs.Borrow.{Bor}
use Rattle.std.specs.BTreeMap.{BTreeMap, get_by}
use Rattle.std.specs.Ordering.{nat_cmp}
use Rattle.std.specs.Cmp.Lexicographic.{slice_cmp}
use Rattle.cssq.specs.Winners.{DeclarationSet, weight, Wins, WinsAt, HasNone}

-- the declarations of one rule, whose index is `i`
abbrev pub InRule : ℕ → List StyleDeclaration → DeclarationSet
InRule i declarations k l q = (k ≡ i) × (slice_get declarations l ≡ Some q)

-- the later, unless only the earlier is important
abbrev pub better_of : Option StyleDeclaration → StyleDeclaration → StyleDeclaration
better_of None later = later
better_of (Some earlier) later = if earlier.important && not later.important then earlier else later

-- the rule has a placement on the node, and this is what wins in it, whatever the rule's index
pub record IsCandidate {Node : Type 0} (tree : Tree Node) (n : Node) (rule : StyleRule)
    (name : List ℕ) (p : StyleDeclaration) : Type 0 where
  pub takes : HasPlacement tree rule.components n
  pub best : (i : ℕ) → Wins (InRule i rule.declarations) name (Some p)

-- whatever declaration of the name the rule has, one of a later rule is known, and this one is not
-- important
abbrev pub IsOutdone : StyleRule → List ℕ → Bool → Type 0
IsOutdone rule name is_later_known =
    (j : ℕ) (p : StyleDeclaration) → slice_get rule.declarations j ≡ Some p → p.name ≡ name
    → (is_later_known ≡ true) × (p.important ≡ false)

-- if the rule has a placement on the node, it is outdone
abbrev pub IsPassedOver : {Node : Type 0} → Tree Node → Node → StyleRule → List ℕ → Bool → Type 0
IsPassedOver tree n rule name is_later_known =
    HasPlacement tree rule.components n → IsOutdone rule name is_later_known

-- the index that a map has for a name
abbrev pub index_for_name : BTreeMap (Bor (List ℕ)) ℕ → List ℕ → Option ℕ
index_for_name indices name = get_by (λ key. slice_cmp nat_cmp name key.now) indices

-- the index of what wins for the name among the declarations of a list, or none if none has the
-- name
abbrev pub IsBestIndex : List StyleDeclaration → List ℕ → Option ℕ → Type 0
IsBestIndex declarations name None = HasNone (InRule 0 declarations) name
IsBestIndex declarations name (Some k) =
    (p : StyleDeclaration) × WinsAt (InRule 0 declarations) name 0 k p

-- the map has for each name the index of what wins for it
abbrev pub HasBestIndices : BTreeMap (Bor (List ℕ)) ℕ → List StyleDeclaration → Type 0
HasBestIndices indices declarations =
    (name : List ℕ) → IsBestIndex declarations name (index_for_name indices name)

-- whether the later replaces the one at the known index, if one is known: it is at least as
-- important
abbrev pub DecidesWhether : Bool → List StyleDeclaration → Option ℕ → StyleDeclaration → Type 0
DecidesWhether takes_over declarations None later = takes_over ≡ true
DecidesWhether true declarations (Some k) later =
    (p : StyleDeclaration) → slice_get declarations k ≡ Some p
    → weight p.important ≤ weight later.important
DecidesWhether false declarations (Some k) later =
    (p : StyleDeclaration) → slice_get declarations k ≡ Some p
    → weight later.important < weight p.important
