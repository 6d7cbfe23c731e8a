-- How many tests matching makes at most. A test is that of one compound selector on one node.
use Rattle.std.specs.Prelude.{ℕ, ◌+◌, ◌-◌, ◌*◌, Bool, true, false, IsTrue, max}
use Rattle.css_matching.specs.Bounds.{longest_fixed, longest_free, most_levels, width}
use Rattle.css_selectors.specs.Documents.{Document, shape}
use Rattle.css_selector_text.specs.Components.{Condition, Conditions, Parts, Selectors}
use Rattle.css_selector_text.specs.Components.Condition.{simple, negation, any_of, where_any, tested}
use Rattle.css_selector_text.specs.Components.Conditions.{end_of_compound, with_condition}
use Rattle.css_selector_text.specs.Components.Parts.{end_of_selector, with_part}
use Rattle.css_selector_text.specs.Components.Selectors.{end_of_list, with_selector}
use Rattle.css_selectors.specs.Meanings.{combinator_at, part_count}
use Rattle.css_selector_text.specs.reading.SearchCounts.{is_lone}

-- how many times the search for a placement asks at most whether a node meets a part
abbrev pub most_questions : {Node : Type 0} → Document Node → Parts → Node → ℕ
most_questions document parts n =
    let combinator = combinator_at parts in
    let last = part_count parts - 1 in
    longest_fixed combinator last * (document.depth n + 1)
    + longest_free combinator last
    * (most_levels combinator last * width (shape document) (document.depth n + 1) n)

-- the tests of a selector in a list that asks so many questions, and whose dearest part makes so many
-- tests: a lone compound selector is looked at within the test that the list belongs to
abbrev pub selector_cost_by : Bool → ℕ → ℕ → ℕ
selector_cost_by true questions dearest = dearest
selector_cost_by false questions dearest = questions * (dearest + 1)

abbrev mutual
  -- the tests that a condition's lists make on a node; a list that has no number yet makes none
  pub condition_cost : {Node : Type 0} → Document Node → Condition → Node → ℕ
  condition_cost document (simple s) n = 0
  condition_cost document (negation selectors) n = list_cost document selectors n
  condition_cost document (any_of selectors) n = list_cost document selectors n
  condition_cost document (where_any selectors) n = list_cost document selectors n
  condition_cost document (tested test selectors) n = 0

  pub compound_cost : {Node : Type 0} → Document Node → Conditions → Node → ℕ
  compound_cost document end_of_compound n = 0
  compound_cost document (with_condition c conditions) n =
      condition_cost document c n + compound_cost document conditions n

  -- those of the part whose lists make most
  pub dearest_part : {Node : Type 0} → Document Node → Parts → Node → ℕ
  dearest_part document end_of_selector n = 0
  dearest_part document (with_part c conditions parts) n =
      max (compound_cost document conditions n) (dearest_part document parts n)

  -- each question is a test, and as many as the lists of the dearest part make
  pub list_cost : {Node : Type 0} → Document Node → Selectors → Node → ℕ
  list_cost document end_of_list n = 0
  list_cost document (with_selector parts selectors) n =
      selector_cost_by (is_lone parts) (most_questions document parts n)
      (dearest_part document parts n)
      + list_cost document selectors n

-- those of a selector in a list
abbrev pub selector_cost : {Node : Type 0} → Document Node → Parts → Node → ℕ
selector_cost document parts n =
    selector_cost_by (is_lone parts) (most_questions document parts n)
    (dearest_part document parts n)

-- no list that makes tests has a selector with a combinator
abbrev mutual
  pub IsPlain : Condition → Type 0
  IsPlain (simple s) = Unit {0}
  IsPlain (negation selectors) = IsPlainList selectors
  IsPlain (any_of selectors) = IsPlainList selectors
  IsPlain (where_any selectors) = IsPlainList selectors
  IsPlain (tested test selectors) = Unit {0}

  pub ArePlain : Conditions → Type 0
  ArePlain end_of_compound = Unit {0}
  ArePlain (with_condition c conditions) = IsPlain c × ArePlain conditions

  pub HasPlainParts : Parts → Type 0
  HasPlainParts end_of_selector = Unit {0}
  HasPlainParts (with_part k c parts) = ArePlain c × HasPlainParts parts

  pub IsPlainList : Selectors → Type 0
  IsPlainList end_of_list = Unit {0}
  IsPlainList (with_selector parts selectors) =
      IsTrue (is_lone parts) × HasPlainParts parts × IsPlainList selectors

-- the tests of a complex selector
abbrev pub most_tests : {Node : Type 0} → Document Node → Parts → Node → ℕ
most_tests document parts n =
    most_questions document parts n * (dearest_part document parts n + 1)
