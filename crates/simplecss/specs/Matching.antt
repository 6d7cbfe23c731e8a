-- Which selectors match an element.
use Rattle.std.specs.Prelude.{◌≡◌, ◌↔◌, ℕ, ◌+◌, ◌*◌, Bool, true, List, length, filter}
use Rattle.std.specs.List.{AllZip, items_where_true, range_with_len}
use Rattle.simplecss_grammar.specs.Components.{Component}
use Rattle.simplecss_selector.specs.Buckets.{Near, reports_bucket, bucket_of}
use Rattle.simplecss_selector.specs.Placements.{HasPlacement, longest_stretch}
use Rattle.simplecss_selector.specs.Trees.{Tree}
use Rattle.simplecss.specs.SelectorIndices.{selector_at, AreTheIndices}

-- the indices are in order, and are exactly those of the selectors that have a placement on the
-- element
abbrev pub AreMatches : {Node : Type 0} → Tree Node → Node → List (List Component) → List ℕ → Type 0
AreMatches tree element selectors =
    AreTheIndices (λ index. HasPlacement tree (selector_at selectors index) element)
    (length selectors)

-- whether the selector is tested: its key is reported
abbrev pub is_tested : Near → List Component → Bool
is_tested reported selector = reports_bucket reported (bucket_of selector)

-- the greatest number of tests to decide whether a selector matches: for the element and each of
-- its ancestors one for each component of the longest stretch
abbrev pub most_tests : {Node : Type 0} → Tree Node → Node → List Component → ℕ
most_tests tree element selector = longest_stretch selector * (tree.depth element + 1)

-- the selectors that are tested
abbrev pub tested_for : Near → List (List Component) → List (List Component)
tested_for reported selectors = filter (is_tested reported) selectors

-- for each selector, whether it has a placement on the element
abbrev pub AreAnswers : {Node : Type 0} → Tree Node → Node → List (List Component) → List Bool
    → Type 0
AreAnswers tree element selectors answers =
    AllZip (λ answer selector. (answer ≡ true) ↔ HasPlacement tree selector element) answers
    selectors

-- the indices of the answers that are true
abbrev pub indices_with_yes : List Bool → List ℕ
indices_with_yes answers = items_where_true answers (range_with_len 0 (length answers))
