-- In a supported selector few selectors with combinators are within one another.
-- Serves `matching_laws::nested_law`.
use Rattle.std.proofs.Common.{◌≡◌, ℕ, ◌-◌, ◌≤◌, Bool, true, false, refl, arith}
use Rattle.std.specs.Prelude.{◌&&◌, nat_le}
use Rattle.std.proofs.lemmas.Bool.Decides.{nat_tests}
use Rattle.css_selector_text.specs.Components.{Condition, Conditions, Parts, Selectors, Selector, parts_from}
use Rattle.css_selector_text.specs.Components.Condition.{simple, negation, any_of, where_any, tested}
use Rattle.css_selector_text.specs.Components.Conditions.{end_of_compound, with_condition}
use Rattle.css_selector_text.specs.Components.Parts.{end_of_selector, with_part}
use Rattle.css_selector_text.specs.Components.Selectors.{end_of_list, with_selector}
use Rattle.css_selectors.specs.NestedTests.{JoinsWithin, CompoundJoinsWithin, PartsJoinWithin, ListJoinsWithin}
use Rattle.css_selector_text.specs.reading.SearchCounts.{search_count}
use Rattle.css_selector_text.specs.reading.Supported.{deepest_joined, is_supported, have_meaning, parts_supported, are_supported, is_plain_element, is_supported_selector}

first_true : (a b : Bool) → (a && b) ≡ true → a ≡ true
first_true true b h = refl
first_true false b h = h

second_true : (a b : Bool) → (a && b) ≡ true → b ≡ true
second_true true b h = h
second_true false b h = absurd (cc)

at_most : (a b : ℕ) → nat_le a b ≡ true → a ≤ b
at_most a b h = grind (arith, nat_tests, h)

-- what was found so far has a meaning
conditions_so_far : (k : ℕ) (b : Bool) (cs : Conditions) → have_meaning k b cs ≡ true → b ≡ true
conditions_so_far k b end_of_compound h = h
conditions_so_far k b (with_condition c cs) h =
    first_true b (is_supported k c) (conditions_so_far k (b && is_supported k c) cs h)

parts_so_far : (k : ℕ) (b : Bool) (ps : Parts) → parts_supported k b ps ≡ true → b ≡ true
parts_so_far k b end_of_selector h = h
parts_so_far k b (with_part l cs ps) h =
    conditions_so_far k b cs (parts_so_far k (have_meaning k b cs) ps h)

selectors_so_far : (k : ℕ) (b : Bool) (ss : Selectors) → are_supported k b ss ≡ true → b ≡ true
selectors_so_far k b end_of_list h = h
selectors_so_far k b (with_selector s ss) h =
    let few = nat_le (search_count s) k in
    first_true b few (parts_so_far (k - search_count s) (b && few) s
    (selectors_so_far k (parts_supported (k - search_count s) (b && few) s) ss h))

mutual
  condition_joins : (k : ℕ) (c : Condition) → is_supported k c ≡ true → JoinsWithin k c
  condition_joins k (simple s) h = tt
  condition_joins k (negation ss) h = list_joins k true ss h
  condition_joins k (any_of ss) h = list_joins k true ss h
  condition_joins k (where_any ss) h = list_joins k true ss h
  condition_joins k (tested test ss) h = tt

  compound_joins : (k : ℕ) (b : Bool) (cs : Conditions) → have_meaning k b cs ≡ true
      → CompoundJoinsWithin k cs
  compound_joins k b end_of_compound h = tt
  compound_joins k b (with_condition c cs) h =
      let so_far = b && is_supported k c in (
        condition_joins k c (second_true b (is_supported k c) (conditions_so_far k so_far cs h)),
        compound_joins k so_far cs h,
      )

  parts_join : (k : ℕ) (b : Bool) (ps : Parts) → parts_supported k b ps ≡ true
      → PartsJoinWithin k ps
  parts_join k b end_of_selector h = tt
  parts_join k b (with_part l cs ps) h =
      let so_far = have_meaning k b cs in
      (compound_joins k b cs (parts_so_far k so_far ps h), parts_join k so_far ps h)

  list_joins : (k : ℕ) (b : Bool) (ss : Selectors) → are_supported k b ss ≡ true
      → ListJoinsWithin k ss
  list_joins k b end_of_list h = tt
  list_joins k b (with_selector s ss) h =
      let less = k - search_count s in
      let few = nat_le (search_count s) k in
      let so_far = parts_supported less (b && few) s in
      let one = selectors_so_far k so_far ss h in
      let is = second_true b few (parts_so_far less (b && few) s one) in
      (at_most (search_count s) k is, parts_join less (b && few) s one, list_joins k so_far ss h)

pub supported_joins : (s : Selector) → is_supported_selector s ≡ true
    → PartsJoinWithin deepest_joined (parts_from s.parts)
supported_joins s h =
    parts_join deepest_joined true (parts_from s.parts)
    (first_true (parts_supported deepest_joined true (parts_from s.parts))
    (is_plain_element s.pseudo_element) h)
