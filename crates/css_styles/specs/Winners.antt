-- Which declarations win on an element.
use Rattle.std.specs.Prelude.{◌≡◌, ℕ, Bool, not, ◌&&◌, if◌then◌else◌, List, [], ◌∷◌, filter, map, Option, None, Some}
use Rattle.std.specs.List.{All, AllPairs, Contains, list_any}
use Rattle.std.specs.Ordering.{is_lt}
use Rattle.std.specs.declared.cmp.Ordering.TheVariants.{Equal}
use Rattle.css_text.specs.Ranks.{ordered_by}
use Rattle.css_syntax.specs.DeclarationLists.{DeclarationText}
use Rattle.css_cascade.specs.Cascade.{Weighed, Wins, beats, cascade_cmp}
use Rattle.css_cascade.specs.Rollbacks.{is_left, left}
use Rattle.css_cascade.specs.declared.rollback.Rollback.TheVariants.{Nowhere}
use Rattle.css_cascade.specs.declared.weights.Origin.TheVariants.{Hint}
use Rattle.css_sheet.specs.SheetOrder.{SheetRuleText}
use Rattle.css_styles.specs.Contenders.{Contender, OwnText, contenders, is_property, of_names, of_property}
use Rattle.css_styles.specs.declared.winner.Source.{Source}

-- A declaration that wins; where it is; and how many declarations are before it there.
pub record WinnerText : Type 0 where
  pub declaration : DeclarationText
  pub source : Source
  pub place : ℕ

abbrev pub as_winner : Contender → WinnerText
as_winner one = record { declaration = one.declaration; source = one.source; place = one.place }

-- Those of these declarations that count, which contend for one property: as long as the one that wins is
-- `revert` or `revert-layer`, what is of its origin, or in its layer, and what is after that do not.
abbrev pub counting : List Contender → List Contender
counting found = left (λ (one : Contender). one.weight) (λ all one. all) found

-- the same of declarations of several properties, each contending with those of its own
abbrev pub counting_each : List Contender → List Contender
counting_each found =
    left (λ (one : Contender). one.weight)
    (λ (all : List Contender) (one : Contender). of_property one.declaration.name all) found

-- another declaration of the same property beats this one
abbrev pub is_beaten : List Contender → Contender → Bool
is_beaten all one =
    list_any (λ (other : Contender). is_property one.declaration.name other.declaration.name
    && beats other.weight one.weight) all

-- those that no other of the same property beats, in their order
abbrev pub unbeaten : List Contender → List Contender
unbeaten all = filter (λ (one : Contender). not (is_beaten all one)) all

-- None of these declarations, of whichever property, counts still where this one wins: it is `revert` or
-- `revert-layer`, and nothing is in an earlier origin or layer.
abbrev pub is_first : List Contender → Weighed → Bool
is_first all one = not (list_any (λ (other : Contender). is_left other.weight one) all)

-- what the cascade sees of a declaration with a value that does not roll back
abbrev pub as_value : Weighed → Weighed
as_value one = record {
  important = one.important;
  origin = one.origin;
  attached = one.attached;
  layer = one.layer;
  specificity = one.specificity;
  place = one.place;
  rollback = Nowhere;
}

abbrev pub with_weight : Weighed → Contender → Contender
with_weight weight one = record {
  weight = weight;
  declaration = one.declaration;
  source = one.source;
  place = one.place;
}

-- A declaration that nothing is before stands as it is: what is applied to the element in the end says
-- `revert`, too, which leaves what the declarations before it set.
abbrev pub settled_in : List Contender → Contender → Contender
settled_in all one = with_weight (if is_first all one.weight then as_value one.weight else one.weight) one

abbrev pub settled : List Contender → List Contender
settled all = map (settled_in all) all

-- in the order of the cascade, the strongest last
abbrev pub in_order : List Contender → List Contender
in_order found =
    ordered_by (λ (one other : Contender). is_lt (cascade_cmp one.weight other.weight)) found

-- What is to be applied to an element, one after another, of these declarations, which apply to it: for each
-- property the one that no other that counts beats, in the order of the cascade.
abbrev pub applied : List Contender → List Contender
applied all = in_order (unbeaten (counting_each (settled all)))

-- The declarations that win on an element that the rules at these indices match, and that has these of its
-- own.
abbrev pub winners : List SheetRuleText → (indices : List ℕ) → OwnText → List WinnerText
winners rules indices own = map as_winner (applied (contenders rules indices own))

-- those that count of all that contend there
abbrev pub counted : List SheetRuleText → (indices : List ℕ) → OwnText → List Contender
counted rules indices own = counting_each (settled (contenders rules indices own))

-- It is one of these declarations that count, and none of them beats it; or there is none.
abbrev pub IsUnbeaten : List Contender → Option WinnerText → Type 0
IsUnbeaten found None = found ≡ []
IsUnbeaten found (Some one) =
    (winner : Contender)
    × (Wins (λ (c : Contender). c.weight) found winner × (as_winner winner ≡ one))

-- It is the one that wins of these, which contend for one property.
abbrev pub IsWinner : List Contender → Option WinnerText → Type 0
IsWinner found winner = IsUnbeaten (counting found) winner

-- For each of these, which are the names of properties, it is the one that wins of the declarations that
-- have one of the names.
abbrev pub AreWinners : List Contender → (asked : List (List (List ℕ))) → List (Option WinnerText)
    → Type 0
AreWinners all [] [] = Unit {0}
AreWinners all [] (one ∷ found) = ⊥
AreWinners all (names ∷ asked) [] = ⊥
AreWinners all (names ∷ asked) (one ∷ found) =
    IsWinner (of_names names all) one × AreWinners all asked found

-- Two of these that nothing tells apart in the order of the cascade are alike for it.
abbrev pub AreApart : List Contender → Type 0
AreApart found =
    (one other : Contender) → Contains found one → Contains found other
    → cascade_cmp one.weight other.weight ≡ Equal → one.weight ≡ other.weight

-- No two of these, which stand at different places, are alike in the order of the cascade.
abbrev pub AreDistinct : List Contender → Type 0
AreDistinct found =
    AllPairs (λ (one other : Contender). cascade_cmp one.weight other.weight ≡ Equal → ⊥) found

-- no rule is of the origin of presentational hints, which are an element's own
abbrev pub HaveNoHints : List SheetRuleText → Type 0
HaveNoHints rules = All (λ (rule : SheetRuleText). rule.origin ≡ Hint → ⊥) rules
