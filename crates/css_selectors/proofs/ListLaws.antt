-- A list matches what one of its selectors matches.
-- Serves `matching_laws::list_law`.
use Rattle.std.proofs.Common.{zero, suc, ◌↔◌, inl, inr, List, [], ◌∷◌, refl, sym, subst, arith}
use Rattle.std.specs.List.{Contains}
use Rattle.css_matching.specs.declared.Combinator.{Combinator}
use Rattle.css_selectors.specs.Documents.{Document}
use Rattle.css_selector_text.specs.Components.{Condition, Part, parts_from, selectors_from}
use Rattle.css_selectors.specs.LoneSelectors.{of_parts, of_condition}
use Rattle.css_selector_text.specs.Components.Condition.{negation, any_of, where_any}
use Rattle.css_selector_text.specs.Components.Conditions.{end_of_compound, with_condition}
use Rattle.css_selector_text.specs.Components.Parts.{end_of_selector, with_part}
use Rattle.css_selectors.specs.Meanings.{IsMet, MeetsPart, MatchesAny, IsPlaced, Matches}
use Rattle.css_selectors.proofs.AncestorKeyLemmas.{lone_placed}

module _ {Node : Type 0} (d : Document Node) (n : Node) where
  -- one condition is placed where it is met
  met_placed : (k : Combinator) (c : Condition) → IsMet d c n
      → IsPlaced d (with_part k (with_condition c end_of_compound) end_of_selector) n
  met_placed k c h = lone_placed d n k (with_condition c end_of_compound) (h, tt)

  placed_met : (k : Combinator) (c : Condition)
      → IsPlaced d (with_part k (with_condition c end_of_compound) end_of_selector) n → IsMet d c n
  placed_met k c m =
      (subst (MeetsPart d (with_part k (with_condition c end_of_compound) end_of_selector) 0)
      m.1.ends (m.1.meets 0 (omega arith))).0

  met : (c : Condition) → Matches d (of_condition c) n → IsMet d c n
  met c m = placed_met _ c m.1

  matched : (c : Condition) → IsMet d c n → Matches d (of_condition c) n
  matched c h = (refl, met_placed _ c h)

  abbrev SomeMatches : List (List Part) → Type 0
  SomeMatches all = (parts : List Part) × Contains all parts × Matches d (of_parts parts) n

  some_of_any : (all : List (List Part)) → MatchesAny d (selectors_from all) n → SomeMatches all
  some_of_any [] m = absurd m
  some_of_any (s ∷ all) (inl m) = (s, (0, omega arith, refl), (refl, m))
  some_of_any (s ∷ all) (inr m) =
      let found = some_of_any all m in
      let place = found.1 in
      (found.0, (suc place.0, omega (arith, place.1), place.2), found.2)

  any_of_some : (all : List (List Part)) (parts : List Part) → Contains all parts
      → IsPlaced d (parts_from parts) n → MatchesAny d (selectors_from all) n
  any_of_some [] parts c m = absurd (omega (arith, c.1))
  any_of_some (s ∷ all) parts (zero, lt, e) m =
      inl (subst (λ p. IsPlaced d (parts_from p) n) (sym e) m)
  any_of_some (s ∷ all) parts (suc i, lt, e) m =
      inr (any_of_some all parts (i, omega (arith, lt), e) m)

  pub is_some : (all : List (List Part)) → Matches d (of_condition (any_of (selectors_from all))) n
      ↔ SomeMatches all
  is_some all = (
    λ m. some_of_any all (met (any_of (selectors_from all)) m),
    λ f. matched (any_of (selectors_from all)) (any_of_some all f.0 f.1 f.2.1),
  )

  pub where_is : (all : List (List Part))
      → Matches d (of_condition (where_any (selectors_from all))) n
      ↔ Matches d (of_condition (any_of (selectors_from all))) n
  where_is all = (
    λ m. matched (any_of (selectors_from all)) (met (where_any (selectors_from all)) m),
    λ m. matched (where_any (selectors_from all)) (met (any_of (selectors_from all)) m),
  )

  pub not_is : (all : List (List Part))
      → Matches d (of_condition (negation (selectors_from all))) n
      ↔ (Matches d (of_condition (any_of (selectors_from all))) n → ⊥)
  not_is all = (
    λ m k. met (negation (selectors_from all)) m (met (any_of (selectors_from all)) k),
    λ f. matched (negation (selectors_from all)) (λ k. f (matched (any_of (selectors_from all)) k)),
  )
