-- How many tests matching makes at most, by how deep selectors with combinators are nested.
use Rattle.std.specs.Prelude.{ℕ, zero, suc, ◌+◌, ◌-◌, ◌*◌, ◌≤◌}
use Rattle.css_selector_text.specs.Components.{Condition, Conditions, Parts, Selectors}
use Rattle.css_selector_text.specs.Components.Condition.{simple, negation, any_of, where_any, tested}
use Rattle.css_selector_text.specs.Components.Conditions.{end_of_compound, with_condition}
use Rattle.css_selector_text.specs.Components.Parts.{end_of_selector, with_part}
use Rattle.css_selector_text.specs.Components.Selectors.{end_of_list, with_selector}
use Rattle.css_selector_text.specs.reading.SearchCounts.{search_count}

-- how many compound selectors there are, including those within lists that make tests
abbrev mutual
  pub condition_size : Condition → ℕ
  condition_size (simple s) = 0
  condition_size (negation selectors) = selectors_size selectors
  condition_size (any_of selectors) = selectors_size selectors
  condition_size (where_any selectors) = selectors_size selectors
  condition_size (tested test selectors) = 0

  pub compound_size : Conditions → ℕ
  compound_size end_of_compound = 0
  compound_size (with_condition c conditions) = condition_size c + compound_size conditions

  pub parts_size : Parts → ℕ
  parts_size end_of_selector = 0
  parts_size (with_part k c parts) = compound_size c + parts_size parts + 1

  pub selectors_size : Selectors → ℕ
  selectors_size end_of_list = 0
  selectors_size (with_selector parts selectors) = parts_size parts + selectors_size selectors

-- of the selectors with combinators that stand in lists that make tests, at most `k` are within one
-- another
abbrev mutual
  pub JoinsWithin : ℕ → Condition → Type 0
  JoinsWithin k (simple s) = Unit {0}
  JoinsWithin k (negation selectors) = ListJoinsWithin k selectors
  JoinsWithin k (any_of selectors) = ListJoinsWithin k selectors
  JoinsWithin k (where_any selectors) = ListJoinsWithin k selectors
  JoinsWithin k (tested test selectors) = Unit {0}

  pub CompoundJoinsWithin : ℕ → Conditions → Type 0
  CompoundJoinsWithin k end_of_compound = Unit {0}
  CompoundJoinsWithin k (with_condition c conditions) =
      JoinsWithin k c × CompoundJoinsWithin k conditions

  pub PartsJoinWithin : ℕ → Parts → Type 0
  PartsJoinWithin k end_of_selector = Unit {0}
  PartsJoinWithin k (with_part l c parts) = CompoundJoinsWithin k c × PartsJoinWithin k parts

  pub ListJoinsWithin : ℕ → Selectors → Type 0
  ListJoinsWithin k end_of_list = Unit {0}
  ListJoinsWithin k (with_selector parts selectors) =
      (search_count parts ≤ k) × PartsJoinWithin (k - search_count parts) parts
      × ListJoinsWithin k selectors

-- the most tests of a search for `parts` compound selectors: `above` is the number of the element and
-- its ancestors, `before` that of their earlier siblings
abbrev pub searches : ℕ → ℕ → ℕ → ℕ
searches parts above before = parts * (above + parts * before)

-- the most tests of searches within searches, as deep as the first number, where each makes `one`
-- tests of its own: each test makes those of the next search besides itself
abbrev pub nested_tests : ℕ → ℕ → ℕ
nested_tests zero one = 0
nested_tests (suc k) one = one * (nested_tests k one + 1)
